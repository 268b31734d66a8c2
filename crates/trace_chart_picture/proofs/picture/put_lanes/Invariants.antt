use Rattle.std.proofs.Common.{◌≡◌, ◌++◌, drop}
use Rattle.std.specs.List.{flat_map}
use Rattle.trace_chart_picture.specs.Pictures.{lane_text}
use Rattle.trace_chart_picture.proofs.picture.put_lanes.Given as goal

abbrev pub invariant-loop-lane : goal.invariant-loop-lane
invariant-loop-lane l = l.out ++ flat_map (lane_text l.bottom) (drop l.lane-index l.lanes) ≡ l.initial.out ++ flat_map (lane_text l.bottom) l.lanes
