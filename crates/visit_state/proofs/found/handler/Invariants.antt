use Rattle.std.proofs.Common.{◌≡◌, length}
use Rattle.visit_state.specs.Handlers as spec
use Rattle.visit_state.proofs.found.handler.Given as goal

abbrev pub invariant-loop-rest : goal.invariant-loop-rest
invariant-loop-rest l =
    spec.handler l.clauses l.x ≡ spec.handler l.rest l.x

abbrev pub decreases-loop-rest : goal.decreases-loop-rest
decreases-loop-rest l = length l.rest
