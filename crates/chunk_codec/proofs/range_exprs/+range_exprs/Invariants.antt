use Rattle.std.proofs.Common.{◌≡◌, true, take}
use Rattle.std.specs.List.{list_all}
use Rattle.chunk_codec.specs.Ranges.{expr_ranged, clause_ranged}
use Rattle.chunk_codec.proofs.range_exprs.+range_exprs.Given as goal

abbrev pub invariant-range_exprs-loop-e : goal.invariant-range_exprs-loop-e
invariant-range_exprs-loop-e l = list_all expr_ranged (take l.e-index l.exprs) ≡ true

abbrev pub invariant-range_clauses-loop-c : goal.invariant-range_clauses-loop-c
invariant-range_clauses-loop-c l = list_all clause_ranged (take l.c-index l.clauses) ≡ true
