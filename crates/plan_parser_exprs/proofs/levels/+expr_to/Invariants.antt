use Rattle.plan_parser_exprs.proofs.levels.+expr_to.Given as goal

abbrev pub decreases-expr_to : goal.decreases-expr_to
decreases-expr_to l = l.room
