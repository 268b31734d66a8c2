use Rattle.std.proofs.Common.{take, refl, sym, ◌∙◌, subst, arith}
use Rattle.std.proofs.lemmas.List.Elements.{All-get_or}
use Rattle.network_config.specs.NodeRules.{KeepsEntry}
use Rattle.node_core.specs.Stands.{version_of}
use Rattle.node_log.specs.Runs.{node_after}
use Rattle.node_log.proofs.ReplayLaws.{none_stands, next_stands}
use Rattle.frag_chunks_log.proofs.CountLaws.{next_counted, all_counted}
use Rattle.frag_chunks_log.proofs.counting.count_entries.Goals as goal

pub loop-entry-init : goal.loop-entry-init
loop-entry-init g c = record {
  version = refl;
  stands = λ s h. none_stands g.S.Services.stands c.args.node.now s h;
  counted = λ s h. refl;
}

pub count_entry-requires : goal.count_entry-requires
count_entry-requires g c =
    let h = All-get_or (KeepsEntry (version_of c.args.node.now)) c.args.entries.now c.loop-entry.entry-index c.entry-item.result c.loop-entry-test.true c.requires in
    subst (λ v. KeepsEntry v c.entry-item.result) (sym c.loop-entry.invariant.version) (rw (sym c.entry-item.is) at h)

pub loop-entry-preserved : goal.loop-entry-preserved
loop-entry-preserved g c =
    let i = c.loop-entry.entry-index in
    let e = c.entry-item.result in
    let es = c.args.entries.now in
    let l = c.loop-entry.invariant in
    record {
      version = c.count_entry.ensures.same ∙ l.version;
      stands = λ s h. next_stands g.S.Services.stands c.count_entry.new.node s es i e e c.loop-entry-test.true c.entry-item.is (c.in_ok-count_entry.ensures.after (node_after s (take i es)) (l.stands s h));
      counted = λ s h. next_counted s es i e e c.args.counting.now c.loop-entry.counting c.count_entry.new.counting
          c.loop-entry-test.true c.entry-item.is (l.counted s h) (c.in_ok-count_entry.ensures.notes (node_after s (take i es)) (l.stands s h));
    }

pub returns : goal.returns
returns g c = λ s h. all_counted s c.args.entries.now c.loop-entry.entry-index c.args.counting.now c.loop-entry.counting (omega (arith, c.loop-entry-test.false)) (c.loop-entry.invariant.counted s h)
