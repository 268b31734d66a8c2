use Rattle.std.proofs.Common.{◌≡◌, ◌≤◌, length, reverse}
use Rattle.resident_tables.specs.Moved.{all_put}
use Rattle.resident_tables.proofs.list.pour.Given as goal

abbrev pub invariant-loop-item : goal.invariant-loop-item
invariant-loop-item g l = record {
  moved : all_put g.T.HasKey.key_of (reverse l.items.items) l.list.items ≡ all_put g.T.HasKey.key_of (reverse l.initial.items.items) l.initial.list.items;
  room : length l.items.items ≤ l.list.spare;
}

abbrev pub decreases-loop-item : goal.decreases-loop-item
decreases-loop-item g l = length l.items.items
