use Rattle.std.proofs.Common.{◌≡◌, ◌++◌, map, take, drop}
use Rattle.resident_tables.specs.Index.{place_moved_up}
use Rattle.resident_tables.proofs.edits.close_gap.Given as goal

abbrev pub invariant-loop-place : goal.invariant-loop-place
invariant-loop-place l = l.place-items ≡ map (place_moved_up l.gap) (take l.place-index l.initial.place-items) ++ drop l.place-index l.initial.place-items
