use Rattle.std.proofs.Common.{arith}
use Rattle.plan_parser_exprs.proofs.Builds.{let_of_last}
use Rattle.plan_parser_exprs.proofs.builder.let_of.Goals as goal

pub loop-bound-preserved : goal.loop-bound-preserved
loop-bound-preserved c = grind (arith, let_of_last)
