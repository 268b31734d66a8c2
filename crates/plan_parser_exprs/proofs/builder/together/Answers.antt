use Rattle.std.proofs.Common.{arith}
use Rattle.plan_parser_exprs.proofs.Builds.{trees_last, places_last, depth_last}
use Rattle.plan_parser_exprs.proofs.builder.together.Goals as goal

pub loop-node-preserved : goal.loop-node-preserved
loop-node-preserved c = grind (arith, trees_last, places_last, depth_last)
