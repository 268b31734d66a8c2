use Rattle.std.proofs.Common.{◌≡◌, ◌++◌, ◌+◌, ◌*◌, [], drop}
use Rattle.std.specs.Prelude.{codes}
use Rattle.std.specs.List.{sum_by}
use Rattle.plan_base.specs.Sizes.{expr_nodes, clause_nodes}
use Rattle.plan_printer_spec.specs.Pieces.{listed_pieces}
use Rattle.plan_printer_spec.specs.Printed.{expr_text, clause_text}
use Rattle.plan_printer.proofs.programs.+put_expr.Given as goal

abbrev pub invariant-put_exprs-loop-e : goal.invariant-put_exprs-loop-e
invariant-put_exprs-loop-e l = l.out ++ listed_pieces (codes ", ") l.separator expr_text (drop l.e-index l.exprs) ≡ l.initial.out ++ listed_pieces (codes ", ") [] expr_text l.exprs

abbrev pub invariant-put_clauses-loop-clause : goal.invariant-put_clauses-loop-clause
invariant-put_clauses-loop-clause l = l.out ++ listed_pieces (codes " | ") l.separator clause_text (drop l.clause-index l.clauses) ≡ l.initial.out ++ listed_pieces (codes " | ") [] clause_text l.clauses

abbrev pub decreases-put_expr : goal.decreases-put_expr
decreases-put_expr l = 4 * expr_nodes l.e.now

abbrev pub decreases-put_around : goal.decreases-put_around
decreases-put_around l = 4 * expr_nodes l.e.now + 1

abbrev pub decreases-put_both : goal.decreases-put_both
decreases-put_both l = 4 * (expr_nodes l.first.now + expr_nodes l.second.now) + 2

abbrev pub decreases-put_choice : goal.decreases-put_choice
decreases-put_choice l = 4 * (expr_nodes l.condition.now + expr_nodes l.first.now + expr_nodes l.second.now) + 3

abbrev pub decreases-put_binding : goal.decreases-put_binding
decreases-put_binding l = 4 * (expr_nodes l.value.now + expr_nodes l.body.now) + 3

abbrev pub decreases-put_operation : goal.decreases-put_operation
decreases-put_operation l = 4 * (expr_nodes l.first.now + expr_nodes l.second.now) + 2

abbrev pub decreases-put_part : goal.decreases-put_part
decreases-put_part l = 4 * expr_nodes l.tuple.now + 2

abbrev pub decreases-put_try : goal.decreases-put_try
decreases-put_try l = 4 * (expr_nodes l.body.now + sum_by clause_nodes l.clauses.now) + 3

abbrev pub decreases-put_fold : goal.decreases-put_fold
decreases-put_fold l = 4 * (expr_nodes l.start.now + expr_nodes l.list.now) + 3

abbrev pub decreases-put_remote : goal.decreases-put_remote
decreases-put_remote l = 4 * (expr_nodes l.chunk.now + expr_nodes l.host.now + expr_nodes l.bound.now) + 3

abbrev pub decreases-put_neighbour : goal.decreases-put_neighbour
decreases-put_neighbour l = 4 * (expr_nodes l.chunk.now + expr_nodes l.host.now + expr_nodes l.bound.now + expr_nodes l.device.now) + 3

abbrev pub decreases-put_call : goal.decreases-put_call
decreases-put_call l = 4 * sum_by expr_nodes l.args.now + 3

abbrev pub decreases-put_args : goal.decreases-put_args
decreases-put_args l = 4 * sum_by expr_nodes l.args.now + 2

abbrev pub decreases-put_exprs : goal.decreases-put_exprs
decreases-put_exprs l = 4 * sum_by expr_nodes l.exprs.now + 1

abbrev pub decreases-put_clauses : goal.decreases-put_clauses
decreases-put_clauses l = 4 * sum_by clause_nodes l.clauses.now + 2

abbrev pub decreases-put_clause : goal.decreases-put_clause
decreases-put_clause l = 4 * clause_nodes l.clause.now + 1
