use Rattle.std.proofs.Common.{◌≡◌, min, take}
use Rattle.plan_base.specs.Sizes.{largest_by, expr_depth, clause_depth}
use Rattle.plan_base_size.proofs.depths.+expr_depth.Given as goal

abbrev pub invariant-exprs_depth-loop-e : goal.invariant-exprs_depth-loop-e
invariant-exprs_depth-loop-e l = l.deepest ≡ min (largest_by expr_depth (take l.e-index l.exprs)) 4294967295

abbrev pub invariant-clauses_depth-loop-clause : goal.invariant-clauses_depth-loop-clause
invariant-clauses_depth-loop-clause l = l.deepest ≡ min (largest_by clause_depth (take l.clause-index l.clauses)) 4294967295
