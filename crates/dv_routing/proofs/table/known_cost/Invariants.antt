use Rattle.std.proofs.Common.{◌≡◌, length}
use Rattle.dv_routing.specs.Lanes.{known_cost}
use Rattle.dv_routing.proofs.table.known_cost.Given as goal

abbrev pub invariant-loop-rest : goal.invariant-loop-rest
invariant-loop-rest l = known_cost l.rest l.host ≡ known_cost l.known l.host

abbrev pub decreases-loop-rest : goal.decreases-loop-rest
decreases-loop-rest l = length l.rest
