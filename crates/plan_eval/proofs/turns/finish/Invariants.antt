use Rattle.std.proofs.Common.{length}
use Rattle.plan_eval_state.specs.Loop.{load}
use Rattle.plan_eval.specs.Turns.{Loops}
use Rattle.plan_eval.proofs.turns.finish.Given as goal

abbrev pub invariant-loop-how : goal.invariant-loop-how
invariant-loop-how g l = Loops l.first l.fn.came l.fn.run (g.S.Services.stands l.fn.svc) l.conts l.how l.run (g.S.Services.stands l.svc)

abbrev pub decreases-loop-how : goal.decreases-loop-how
decreases-loop-how g l = load l.how (length l.conts) l.run
