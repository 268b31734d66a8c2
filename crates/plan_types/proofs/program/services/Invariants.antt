use Rattle.std.proofs.Common.{◌≡◌, [], length}
use Rattle.plan_types_spec.specs.TypingOrder.{services_from}
use Rattle.plan_types.proofs.program.services.Given as goal

abbrev pub invariant-loop-all : goal.invariant-loop-all
invariant-loop-all l = services_from [] l.fn.all l.at ≡ services_from l.taken l.all l.number

abbrev pub decreases-loop-all : goal.decreases-loop-all
decreases-loop-all l = length l.all
