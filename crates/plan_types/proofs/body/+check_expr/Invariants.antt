use Rattle.plan_types.proofs.body.+check_expr.Given as goal

abbrev pub decreases-check_expr : goal.decreases-check_expr
decreases-check_expr l = l.depth
