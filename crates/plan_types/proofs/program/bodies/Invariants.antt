use Rattle.std.proofs.Common.{◌≡◌, [], length}
use Rattle.plan_types_spec.specs.TypingOrder.{bodies_from}
use Rattle.plan_types.proofs.program.bodies.Given as goal

abbrev pub invariant-loop-all : goal.invariant-loop-all
invariant-loop-all l = bodies_from l.code [] l.fn.all 0 ≡ bodies_from l.code l.done l.all l.node

abbrev pub decreases-loop-all : goal.decreases-loop-all
decreases-loop-all l = length l.all
