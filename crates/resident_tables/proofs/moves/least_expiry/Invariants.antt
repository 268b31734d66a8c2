use Rattle.std.proofs.Common.{◌≡◌, length}
use Rattle.resident_tables.specs.Expiries as spec
use Rattle.resident_tables.proofs.moves.least_expiry.Given as goal

abbrev pub invariant-loop-rest : goal.invariant-loop-rest
invariant-loop-rest l = spec.least_expiry l.bound l.rows ≡ spec.least_expiry l.least l.rest

abbrev pub decreases-loop-rest : goal.decreases-loop-rest
decreases-loop-rest l = length l.rest
