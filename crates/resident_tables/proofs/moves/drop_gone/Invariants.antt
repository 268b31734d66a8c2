use Rattle.std.proofs.Common.{◌≡◌, ◌≤◌, length}
use Rattle.resident_tables.specs.Layers.{without_all}
use Rattle.resident_tables.proofs.moves.drop_gone.Given as goal

abbrev pub invariant-loop-rest : goal.invariant-loop-rest
invariant-loop-rest l = record {
  rows : without_all l.rest l.rows.items ≡ without_all l.gone l.initial.rows.items;
  spare : l.initial.rows.spare ≤ l.rows.spare;
}

abbrev pub decreases-loop-rest : goal.decreases-loop-rest
decreases-loop-rest l = length l.rest
