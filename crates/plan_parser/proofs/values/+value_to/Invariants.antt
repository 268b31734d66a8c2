use Rattle.plan_parser.proofs.values.+value_to.Given as goal

abbrev pub decreases-value_to : goal.decreases-value_to
decreases-value_to l = l.room
