use Rattle.std.proofs.Common.{◌≡◌, length}
use Rattle.dv_routing.specs.Routing.{least}
use Rattle.dv_routing.specs.Lanes.{taken_cost}
use Rattle.dv_routing.proofs.table.taken_cost.Given as goal

abbrev pub invariant-loop-rest : goal.invariant-loop-rest
invariant-loop-rest l = least l.best (taken_cost l.host l.rest) ≡ taken_cost l.host l.rows

abbrev pub decreases-loop-rest : goal.decreases-loop-rest
decreases-loop-rest l = length l.rest
