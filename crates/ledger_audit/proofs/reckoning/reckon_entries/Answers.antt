use Rattle.std.proofs.Common.{◌+◌, take, refl, sym, ap, ◌∙◌, subst, arith}
use Rattle.std.proofs.lemmas.List.Elements.{All-get_or}
use Rattle.network_config.specs.NodeRules.{KeepsEntry}
use Rattle.node_core.specs.Stands.{version_of}
use Rattle.node_log.specs.Runs.{node_after}
use Rattle.ledger_audit.specs.Pasts.{with_entries}
use Rattle.node_log.proofs.ReplayLaws.{none_stands, next_stands}
use Rattle.ledger_audit.proofs.PastLaws.{next_entry, all_entries, next_reads, all_reads}
use Rattle.ledger_audit.proofs.reckoning.reckon_entries.Goals as goal

pub loop-entry-init : goal.loop-entry-init
loop-entry-init g c = record {
  number = refl;
  version = refl;
  stands = λ s h. none_stands g.S.Services.stands c.args.node.now s h;
  held = λ s h p k. k;
  reads = λ s h. tt;
}

pub reckon_entry-requires : goal.reckon_entry-requires
reckon_entry-requires g c =
    let h = All-get_or (KeepsEntry (version_of c.args.node.now)) c.args.entries.now c.loop-entry.entry-index c.entry-item.result c.loop-entry-test.true c.requires.keeps in
    subst (λ v. KeepsEntry v c.entry-item.result) (sym c.loop-entry.invariant.version) (rw (sym c.entry-item.is) at h)

pub loop-entry-preserved : goal.loop-entry-preserved
loop-entry-preserved g c =
    let i = c.loop-entry.entry-index in
    let e = c.entry-item.result in
    let es = c.args.entries.now in
    let l = c.loop-entry.invariant in
    record {
      number = ap (λ n. n + 1) l.number;
      version = c.reckon_entry.ensures.same ∙ l.version;
      stands = λ s h. next_stands g.S.Services.stands c.reckon_entry.new.node s es i e e c.loop-entry-test.true c.entry-item.is (c.in_ok-reckon_entry.ensures.after (node_after s (take i es)) (l.stands s h));
      held = λ s h p k.
          next_entry c.reckon_entry.new.reckoning p c.args.links.now c.args.log (c.loop-entry.event + 1) s es i e c.loop-entry-test.true c.entry-item.is (ap (λ n. n + 1) l.number)
          (c.in_ok-reckon_entry.ensures.holds (node_after s (take i es)) (l.stands s h) (with_entries c.args.links.now c.args.log 0 s (take i es) p) (l.held s h p k));
      reads = λ s h. next_reads s es i e c.loop-entry-test.true c.entry-item.is (l.reads s h) (c.in_ok-reckon_entry.ensures.reads (node_after s (take i es)) (l.stands s h));
    }

pub returns-clause-holds : goal.returns-clause-holds
returns-clause-holds g c = λ s h p k.
    all_entries c.loop-entry.reckoning p c.args.links.now c.args.log s c.args.entries.now c.loop-entry.entry-index (omega (arith, c.loop-entry-test.false)) (c.loop-entry.invariant.held s h p k)

pub returns-clause-reads : goal.returns-clause-reads
returns-clause-reads g c = λ s h. all_reads s c.args.entries.now c.loop-entry.entry-index (omega (arith, c.loop-entry-test.false)) (c.loop-entry.invariant.reads s h)
