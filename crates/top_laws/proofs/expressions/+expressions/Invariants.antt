use Rattle.std.proofs.Common.{◌≡◌, true, take}
use Rattle.std.specs.List.{list_all}
use Rattle.top_laws.specs.Exact.{exact, clause_exact}
use Rattle.top_laws.proofs.expressions.+expressions.Given as goal

abbrev pub invariant-read_exprs-loop-e : goal.invariant-read_exprs-loop-e
invariant-read_exprs-loop-e l = list_all exact (take l.e-index l.exprs) ≡ true

abbrev pub invariant-read_clauses-loop-c : goal.invariant-read_clauses-loop-c
invariant-read_clauses-loop-c l = list_all clause_exact (take l.c-index l.clauses) ≡ true
