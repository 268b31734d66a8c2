use Rattle.std.proofs.Common.{◌≡◌, length}
use Rattle.std.specs.VecDeque.{deque_capacity}
use Rattle.reliable_ports.specs.Ends.{padded_bodies}
use Rattle.reliable_ports.proofs.ends.pad.Given as goal

abbrev pub invariant-loop-at : goal.invariant-loop-at
invariant-loop-at l = record {
  items : l.early.items ≡ padded_bodies l._at l.initial.early.items;
  len : length l.early.items ≡ l._at;
  room : deque_capacity l.early ≡ deque_capacity l.initial.early;
}
