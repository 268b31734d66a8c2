use Rattle.plan_parser_exprs.proofs.types.+type_to.Given as goal

abbrev pub decreases-type_to : goal.decreases-type_to
decreases-type_to l = l.room
