use Rattle.std.proofs.Common.{◌≡◌, min, take}
use Rattle.std.specs.List.{sum_by}
use Rattle.plan_base.specs.Sizes.{expr_size, clause_size}
use Rattle.plan_base_size.proofs.sizes.+expr_size.Given as goal

abbrev pub invariant-exprs_size-loop-e : goal.invariant-exprs_size-loop-e
invariant-exprs_size-loop-e l = l.total ≡ min (sum_by expr_size (take l.e-index l.exprs)) 18446744073709551615

abbrev pub invariant-clauses_size-loop-clause : goal.invariant-clauses_size-loop-clause
invariant-clauses_size-loop-clause l = l.total ≡ min (sum_by clause_size (take l.clause-index l.clauses)) 18446744073709551615
