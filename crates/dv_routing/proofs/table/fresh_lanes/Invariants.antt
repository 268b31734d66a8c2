use Rattle.std.proofs.Common.{◌≡◌, take}
use Rattle.std.specs.Prelude.{map}
use Rattle.dv_routing.specs.Lanes.{fresh_lane}
use Rattle.dv_routing.proofs.table.fresh_lanes.Given as goal

abbrev pub invariant-loop-link : goal.invariant-loop-link
invariant-loop-link l = l.lanes.items ≡ map (fresh_lane l.hosts) (take l.link-index l.neighbours)
