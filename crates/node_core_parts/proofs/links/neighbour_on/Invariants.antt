use Rattle.std.proofs.Common.{◌≡◌, length}
use Rattle.node_core_spec.specs.State as spec
use Rattle.node_core_parts.proofs.links.neighbour_on.Given as goal

abbrev pub invariant-loop-rest : goal.invariant-loop-rest
invariant-loop-rest l = spec.neighbour_on l.links l.dev ≡ spec.neighbour_on l.rest l.dev

abbrev pub decreases-loop-rest : goal.decreases-loop-rest
decreases-loop-rest l = length l.rest
