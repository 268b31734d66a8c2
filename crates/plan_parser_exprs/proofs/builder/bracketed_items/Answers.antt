use Rattle.std.proofs.Common.{arith}
use Rattle.plan_parser_exprs.proofs.Builds.{bracketed_last}
use Rattle.plan_parser_exprs.proofs.builder.bracketed_items.Goals as goal

pub loop-item-preserved : goal.loop-item-preserved
loop-item-preserved c = grind (arith, bracketed_last)
