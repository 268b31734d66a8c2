use Rattle.std.proofs.Common.{◌≡◌, length}
use Rattle.plan_types_spec.specs.TypingOrder.{functions_from}
use Rattle.plan_types.proofs.program.functions.Given as goal

abbrev pub invariant-loop-all : goal.invariant-loop-all
invariant-loop-all l = functions_from l.fn.before l.fn.all l.at ≡ functions_from l.taken l.all l.number

abbrev pub decreases-loop-all : goal.decreases-loop-all
decreases-loop-all l = length l.all
