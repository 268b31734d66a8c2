use Rattle.std.proofs.Common.{arith}
use Rattle.plan_parser_exprs.proofs.Builds.{clauses_last, body_places_last, body_depth_last}
use Rattle.plan_parser_exprs.proofs.builder.clauses.Goals as goal

pub loop-clause-preserved : goal.loop-clause-preserved
loop-clause-preserved c = grind (arith, clauses_last, body_places_last, body_depth_last)
