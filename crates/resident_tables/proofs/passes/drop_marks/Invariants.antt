use Rattle.std.proofs.Common.{◌≡◌, ◌++◌, map, take, drop}
use Rattle.resident_tables.specs.Passes.{place_of}
use Rattle.resident_tables.proofs.passes.drop_marks.Given as goal

abbrev pub invariant-loop-entry : goal.invariant-loop-entry
invariant-loop-entry l = l.entry-items ≡ map place_of (take l.entry-index l.initial.entry-items) ++ drop l.entry-index l.initial.entry-items
