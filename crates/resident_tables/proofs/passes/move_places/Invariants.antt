use Rattle.std.proofs.Common.{◌≡◌, ◌-◌, ◌++◌, length, map, take, drop}
use Rattle.std.specs.Prelude.{slice_index}
use Rattle.resident_tables.specs.Passes.{place_of, mark_of}
use Rattle.resident_tables.proofs.passes.move_places.Given as goal

abbrev pub invariant-loop-i : goal.invariant-loop-i
invariant-loop-i l = record {
  marks : map mark_of l.order ≡ map mark_of l.initial.order;
  places : map place_of l.order ≡ map (slice_index (map mark_of l.initial.order)) (take l.i (map place_of l.initial.order)) ++ drop l.i (map place_of l.initial.order);
}

abbrev pub decreases-loop-i : goal.decreases-loop-i
decreases-loop-i l = length l.order - l.i
