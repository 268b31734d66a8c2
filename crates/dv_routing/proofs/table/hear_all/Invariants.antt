use Rattle.std.proofs.Common.{◌≡◌, ◌++◌, take, drop}
use Rattle.std.specs.Prelude.{map}
use Rattle.dv_routing.specs.Lanes.{lane_after}
use Rattle.dv_routing.proofs.table.hear_all.Given as goal

abbrev pub invariant-loop-i : goal.invariant-loop-i
invariant-loop-i l = l.lanes.items ≡ map (lane_after l.dev l.rows) (take l.i l.initial.lanes.items) ++ drop l.i l.initial.lanes.items
