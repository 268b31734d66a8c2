use Rattle.std.proofs.Common.{◌≡◌, min, take}
use Rattle.std.specs.List.{sum_by}
use Rattle.plan_base.specs.Sizes.{expr_nodes, clause_nodes}
use Rattle.plan_base_size.proofs.depths.+expr_nodes.Given as goal

abbrev pub invariant-exprs_nodes-loop-e : goal.invariant-exprs_nodes-loop-e
invariant-exprs_nodes-loop-e l = l.total ≡ min (sum_by expr_nodes (take l.e-index l.exprs)) 4294967295

abbrev pub invariant-clauses_nodes-loop-clause : goal.invariant-clauses_nodes-loop-clause
invariant-clauses_nodes-loop-clause l = l.total ≡ min (sum_by clause_nodes (take l.clause-index l.clauses)) 4294967295
