use Rattle.std.proofs.Common.{◌≡◌, take}
use Rattle.resident_tables.proofs.moves.copy_rows.Given as goal

abbrev pub invariant-loop-row : goal.invariant-loop-row
invariant-loop-row l = l.done ≡ take l.row-index l.rows
