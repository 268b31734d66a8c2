use Rattle.std.proofs.Common.{◌+◌, take, refl, sym, ap, arith, ◌∙◌}
use Rattle.std.proofs.lemmas.List.Elements.{All-get_or}
use Rattle.network_config.specs.NodeRules.{KeepsEntry}
use Rattle.node_log.specs.Runs.{node_after}
use Rattle.node_log.proofs.ReplayLaws.{none_written, none_stands, next_stands, next_written, next_stopped, all_written}
use Rattle.node_log.proofs.replay.write_entries.Goals as goal

pub loop-entry-init : goal.loop-entry-init
loop-entry-init g c = record {
  number = refl;
  version = refl;
  stands = λ s h. none_stands g.S.Services.stands c.args.node.now s h;
  written = λ s h. none_written c.args.config.now.here s (g.K.Sink.state c.args.out.now);
}

pub write_entry-requires-clause-entry : goal.write_entry-requires-clause-entry
write_entry-requires-clause-entry g c = let h = All-get_or (KeepsEntry c.args.config.now.version) c.args.entries.now c.loop-entry.entry-index c.entry-item.result c.loop-entry-test.true c.requires.keeps.each in rw (sym c.entry-item.is) at h

pub write_entry-requires-clause-version : goal.write_entry-requires-clause-version
write_entry-requires-clause-version g c = c.loop-entry.invariant.version ∙ c.requires.version

pub loop-entry-preserved : goal.loop-entry-preserved
loop-entry-preserved g c =
    let i = c.loop-entry.entry-index in
    let e = c.entry-item.result in
    let es = c.args.entries.now in
    let l = c.loop-entry.invariant in
    let out = g.K.Sink.state in
    record {
      number = ap (λ n. n + 1) l.number;
      version = c.write_entry.ensures.same ∙ l.version;
      stands = λ s h. next_stands g.S.Services.stands c.write_entry.new.node s es i e e c.loop-entry-test.true c.entry-item.is (c.in_default.ensures.after (node_after s (take i es)) (l.stands s h));
      written = λ s h. next_written c.args.config.now.here s es i (c.loop-entry.number + 1) e e (out c.args.out.now) (out c.loop-entry.out) (out c.write_entry.new.out)
          c.loop-entry-test.true c.entry-item.is (ap (λ n. n + 1) l.number) (l.written s h) (c.in_default.ensures.lines (node_after s (take i es)) (l.stands s h));
    }

pub returns-in-Err : goal.returns-in-Err
returns-in-Err g c = λ s h.
    let i = c.loop-entry.entry-index in
    let e = c.entry-item.result in
    let es = c.args.entries.now in
    let l = c.loop-entry.invariant in
    let out = g.K.Sink.state in
    next_stopped c.args.config.now.here s es i (c.loop-entry.number + 1) e e (out c.args.out.now) (out c.loop-entry.out) (out c.write_entry.new.out)
    c.loop-entry-test.true c.entry-item.is (ap (λ n. n + 1) l.number) (l.written s h) c.in-Err.fault (c.in-Err.ensures.lines (node_after s (take i es)) (l.stands s h))

pub returns : goal.returns
returns g c =
    λ s h. all_written c.args.config.now.here s c.args.entries.now c.loop-entry.entry-index (g.K.Sink.state c.args.out.now) (g.K.Sink.state c.loop-entry.out) (omega (arith, c.loop-entry-test.false))
    (c.loop-entry.invariant.written s h)
