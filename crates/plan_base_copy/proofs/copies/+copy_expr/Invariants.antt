use Rattle.std.proofs.Common.{◌≡◌, ◌+◌, ◌*◌, take}
use Rattle.std.specs.List.{sum_by}
use Rattle.plan_base.specs.Sizes.{expr_nodes, clause_nodes}
use Rattle.plan_base_copy.proofs.copies.+copy_expr.Given as goal

abbrev pub invariant-copy_exprs-loop-e : goal.invariant-copy_exprs-loop-e
invariant-copy_exprs-loop-e l = l.done ≡ take l.e-index l.exprs

abbrev pub invariant-copy_clauses-loop-clause : goal.invariant-copy_clauses-loop-clause
invariant-copy_clauses-loop-clause l = l.done ≡ take l.clause-index l.clauses

abbrev pub decreases-copy_expr : goal.decreases-copy_expr
decreases-copy_expr l = 8 * expr_nodes l.e.now + 1

abbrev pub decreases-copy_row : goal.decreases-copy_row
decreases-copy_row l = 8 * expr_nodes l.e.now

abbrev pub decreases-copy_pair : goal.decreases-copy_pair
decreases-copy_pair l = 8 * expr_nodes l.e.now

abbrev pub decreases-copy_boxed : goal.decreases-copy_boxed
decreases-copy_boxed l = 8 * expr_nodes l.e.now + 2

abbrev pub decreases-copy_exprs : goal.decreases-copy_exprs
decreases-copy_exprs l = 8 * sum_by expr_nodes l.exprs.now + 3

abbrev pub decreases-add_expr : goal.decreases-add_expr
decreases-add_expr l = 8 * expr_nodes l.e.now + 2

abbrev pub decreases-copy_clause : goal.decreases-copy_clause
decreases-copy_clause l = 8 * clause_nodes l.clause.now + 2

abbrev pub decreases-copy_clauses : goal.decreases-copy_clauses
decreases-copy_clauses l = 8 * sum_by clause_nodes l.clauses.now + 4

abbrev pub decreases-add_clause : goal.decreases-add_clause
decreases-add_clause l = 8 * clause_nodes l.clause.now + 3

abbrev pub decreases-copy_two : goal.decreases-copy_two
decreases-copy_two l = 8 * (expr_nodes l.a.now + expr_nodes l.b.now) + 3

abbrev pub decreases-copy_named : goal.decreases-copy_named
decreases-copy_named l = 8 * (expr_nodes l.a.now + expr_nodes l.b.now) + 4

abbrev pub decreases-copy_call : goal.decreases-copy_call
decreases-copy_call l = 8 * sum_by expr_nodes l.args.now + 4

abbrev pub decreases-copy_if : goal.decreases-copy_if
decreases-copy_if l = 8 * (expr_nodes l.c.now + expr_nodes l.a.now + expr_nodes l.b.now) + 4

abbrev pub decreases-copy_let : goal.decreases-copy_let
decreases-copy_let l = 8 * (expr_nodes l.a.now + expr_nodes l.b.now) + 5

abbrev pub decreases-copy_try : goal.decreases-copy_try
decreases-copy_try l = 8 * (expr_nodes l.a.now + sum_by clause_nodes l.clauses.now) + 5

abbrev pub decreases-copy_on_remote : goal.decreases-copy_on_remote
decreases-copy_on_remote l = 8 * (expr_nodes l.c.now + expr_nodes l.h.now + expr_nodes l.n.now) + 5

abbrev pub decreases-copy_on_neighbor : goal.decreases-copy_on_neighbor
decreases-copy_on_neighbor l = 8 * (expr_nodes l.c.now + expr_nodes l.h.now + expr_nodes l.n.now + expr_nodes l.d.now) + 4
