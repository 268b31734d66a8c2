use Rattle.std.proofs.Common.{◌≡◌, ◌++◌, length}
use Rattle.plan_types_spec.specs.TypingNames.{built_in}
use Rattle.plan_types_spec.specs.TypingOrder.{exceptions_from}
use Rattle.plan_types.proofs.program.exceptions.Given as goal

abbrev pub invariant-loop-all : goal.invariant-loop-all
invariant-loop-all l = exceptions_from built_in l.fn.all l.at ≡ exceptions_from (built_in ++ l.taken) l.all l.number

abbrev pub decreases-loop-all : goal.decreases-loop-all
decreases-loop-all l = length l.all
