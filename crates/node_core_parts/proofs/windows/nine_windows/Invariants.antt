use Rattle.std.proofs.Common.{◌-◌, ◌≤◌, length, replicate}
use Rattle.replay_window.specs.Seen.{nothing_seen}
use Rattle.node_core_parts.specs.Windows.{AllSeen}
use Rattle.node_core_parts.proofs.windows.nine_windows.Given as goal

abbrev pub invariant-loop-windows : goal.invariant-loop-windows
invariant-loop-windows l = record {
  short : length l.windows.items ≤ 9;
  seen : AllSeen (replicate (length l.windows.items) nothing_seen) l.windows.items;
}

abbrev pub decreases-loop-windows : goal.decreases-loop-windows
decreases-loop-windows l = 9 - length l.windows.items
