use Rattle.std.proofs.Common.{◌≡◌, [], length}
use Rattle.plan_eval_state.specs.Loop.{onto}
use Rattle.plan_eval.proofs.start.first_stack.Given as goal

abbrev pub invariant-loop-rest : goal.invariant-loop-rest
invariant-loop-rest l = onto l.rest l.stack ≡ onto l.chunk.args []

abbrev pub decreases-loop-rest : goal.decreases-loop-rest
decreases-loop-rest l = length l.rest
