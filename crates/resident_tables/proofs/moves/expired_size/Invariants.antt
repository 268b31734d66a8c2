use Rattle.std.proofs.Common.{◌≡◌, min, take}
use Rattle.resident_tables.specs.Expiries.{expired_size}
use Rattle.resident_tables.proofs.moves.expired_size.Given as goal

abbrev pub invariant-loop-row : goal.invariant-loop-row
invariant-loop-row l = l.total ≡ min (expired_size l.now (take l.row-index l.rows)) 18446744073709551615
