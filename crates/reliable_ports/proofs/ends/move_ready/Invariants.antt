use Rattle.std.proofs.Common.{◌≡◌, ◌+◌, ◌≤◌, ◌++◌, length}
use Rattle.std.specs.Prelude.{vec_len, vec_capacity}
use Rattle.reliable_ports.specs.Ends.{ready, behind}
use Rattle.reliable_ports.proofs.ends.move_ready.Given as goal

abbrev pub invariant-loop-slot : goal.invariant-loop-slot
invariant-loop-slot l = record {
  delivered : l.delivered.items ++ ready l.early.items ≡ l.initial.delivered.items ++ ready l.initial.early.items;
  early : behind l.early.items ≡ behind l.initial.early.items;
  count : l.count + length (ready l.early.items) ≡ length (ready l.initial.early.items);
  room : vec_len l.delivered + length l.early.items ≤ vec_capacity l.delivered;
  few : l.count + length l.early.items ≤ 63;
}

abbrev pub decreases-loop-slot : goal.decreases-loop-slot
decreases-loop-slot l = length l.early.items
