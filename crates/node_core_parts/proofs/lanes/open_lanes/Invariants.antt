use Rattle.std.proofs.Common.{◌≡◌, ◌-◌, ◌≤◌, length, replicate}
use Rattle.node_core_spec.specs.State.{no_lane}
use Rattle.node_core_parts.proofs.lanes.open_lanes.Given as goal

abbrev pub invariant-loop-alloc : goal.invariant-loop-alloc
invariant-loop-alloc l = record {
  short : length l.lanes ≤ 9;
  empty : l.lanes ≡ replicate (length l.lanes) (no_lane l.link);
}

abbrev pub decreases-loop-alloc : goal.decreases-loop-alloc
decreases-loop-alloc l = 9 - length l.lanes
