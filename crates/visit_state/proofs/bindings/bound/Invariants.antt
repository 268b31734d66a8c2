use Rattle.std.proofs.Common.{◌≡◌, [], length}
use Rattle.plan_meaning.specs.Meaning as spec
use Rattle.visit_state.proofs.bindings.bound.Given as goal

abbrev pub invariant-loop-names : goal.invariant-loop-names
invariant-loop-names l =
    spec.bound_behind [] l.params l.args ≡ spec.bound_behind l.done l.names l.values

abbrev pub decreases-loop-names : goal.decreases-loop-names
decreases-loop-names l = length l.names
