use Rattle.std.proofs.Common.{◌≡◌, length, option_copied}
use Rattle.plan_meaning.specs.Meaning as spec
use Rattle.std.specs.Option.{option_or}
use Rattle.visit_state.proofs.bindings.value_of.Given as goal

abbrev pub invariant-loop-rest : goal.invariant-loop-rest
invariant-loop-rest l =
    spec.value_of l.x l.env ≡ option_or (spec.value_of l.x l.rest) (option_copied l.found)

abbrev pub decreases-loop-rest : goal.decreases-loop-rest
decreases-loop-rest l = length l.rest
