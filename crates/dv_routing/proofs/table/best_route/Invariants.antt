use Rattle.std.proofs.Common.{◌≡◌, List, map, None, drop}
use Rattle.plan_base.specs.declared.ids.Host.{Host}
use Rattle.plan_base.specs.declared.ids.Dev.{Dev}
use Rattle.dv_routing.specs.Routing.{Routing}
use Rattle.dv_routing.specs.Lanes.{best_lane}
use Rattle.dv_routing.specs.Stands.{lane_of}
use Rattle.dv_routing.proofs.table.best_route.Given as goal

abbrev pub invariant-loop-lane : goal.invariant-loop-lane
invariant-loop-lane l = (r : Routing) (links : List (Host × Dev)) → l.lanes ≡ map (lane_of r) links → best_lane l.host l.best (drop l.lane-index l.lanes) ≡ best_lane l.host None l.lanes
