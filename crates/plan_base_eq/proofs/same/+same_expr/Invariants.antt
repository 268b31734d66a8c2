use Rattle.std.proofs.Common.{◌≡◌, ◌+◌, ◌*◌, take}
use Rattle.std.specs.List.{sum_by}
use Rattle.plan_base.specs.Sizes.{expr_nodes, clause_nodes}
use Rattle.plan_base_eq.proofs.same.+same_expr.Given as goal

abbrev pub decreases-same_expr : goal.decreases-same_expr
decreases-same_expr l = 4 * expr_nodes l.e.now + 1

abbrev pub decreases-same_pair : goal.decreases-same_pair
decreases-same_pair l = 4 * expr_nodes l.e.now

abbrev pub decreases-same_row : goal.decreases-same_row
decreases-same_row l = 4 * expr_nodes l.e.now

abbrev pub decreases-same_more : goal.decreases-same_more
decreases-same_more l = 4 * expr_nodes l.e.now

abbrev pub decreases-same_both : goal.decreases-same_both
decreases-same_both l = 4 * (expr_nodes l.a.now + expr_nodes l.b.now) + 2

abbrev pub decreases-same_exprs : goal.decreases-same_exprs
decreases-same_exprs l = 4 * sum_by expr_nodes l.a.now + 2

abbrev pub decreases-same_clauses : goal.decreases-same_clauses
decreases-same_clauses l = 4 * sum_by clause_nodes l.a.now + 3

abbrev pub decreases-same_clause : goal.decreases-same_clause
decreases-same_clause l = 4 * clause_nodes l.a.now + 2

abbrev pub invariant-same_exprs-loop-i : goal.invariant-same_exprs-loop-i
invariant-same_exprs-loop-i l = take l.i l.a ≡ take l.i l.b

abbrev pub invariant-same_clauses-loop-i : goal.invariant-same_clauses-loop-i
invariant-same_clauses-loop-i l = take l.i l.a ≡ take l.i l.b
