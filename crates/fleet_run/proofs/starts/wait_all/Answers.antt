use Rattle.std.proofs.Common.{◌∙◌, ◌+◌, inr, drop, get_or, refl, arith}
use Rattle.node_io.specs.Causes.{HasRisen}
use Rattle.node_io.specs.declared.spawner.Child.{Child}
use Rattle.node_io.proofs.SpawnerLaws.{kept_both, wait_failed}
use Rattle.fleet_run.proofs.ChildLaws.{next_is_open, next_waited, leaves}
use Rattle.fleet_run.proofs.starts.wait_all.Goals as goal

pub wait-requires : goal.wait-requires
wait-requires g c =
    let none : Child = record { 0 = 0 } in
    let i = c.loop-child.child-index in
    let o = c.requires in
    next_is_open o.0 (g.P.Spawner.state c.loop-child.spawn).children c.args.started.now i none (get_or c.args.started.now i none) c.loop-child-test.true refl (c.loop-child.invariant.running o.0 o.1)

pub returns-then-is_err : goal.returns-then-is_err
returns-then-is_err g c =
    let none : Child = record { 0 = 0 } in
    let i = c.loop-child.child-index in
    let s = g.P.Spawner.state in
    let l = c.loop-child.invariant in
    let mid = s c.loop-child.spawn in
    let new = s c.wait.new.self in
    let rose : HasRisen mid.faults new.faults = wait_failed (get_or c.args.started.now i none) mid new c.wait.result c.is_err.result c.is_err.ensures.value c.if-is_err.true c.wait.ensures.waits.status in
    record {
      kept = kept_both (s c.args.spawn.now) mid new l.kept c.wait.ensures.waits.kept;
      starts = c.wait.ensures.waits.starts ∙ l.starts;
      waited = λ base o. inr (
        omega (arith, rose, l.kept.later),
        leaves base new.children (drop (i + 1) c.args.started.now)
            (next_waited base mid.children new.children c.args.started.now i none (get_or c.args.started.now i none) c.loop-child-test.true refl c.wait.ensures.waits.children (l.running base o)),
      );
    }

pub loop-child-preserved : goal.loop-child-preserved
loop-child-preserved g c =
    let none : Child = record { 0 = 0 } in
    let i = c.loop-child.child-index in
    let s = g.P.Spawner.state in
    let l = c.loop-child.invariant in
    record {
      kept = kept_both (s c.args.spawn.now) (s c.loop-child.spawn) (s c.wait.new.self) l.kept c.wait.ensures.waits.kept;
      starts = c.wait.ensures.waits.starts ∙ l.starts;
      running = λ base o. next_waited base (s c.loop-child.spawn).children (s c.wait.new.self).children c.args.started.now i none (get_or c.args.started.now i none)
          c.loop-child-test.true refl c.wait.ensures.waits.children (l.running base o);
    }
