use Rattle.std.proofs.Common.{arith}
use Rattle.plan_parser.proofs.DeclarationSteps.{declarations_done, declarations_step}
use Rattle.plan_parser.proofs.declarations.declarations.Goals as goal

pub loop-preserved : goal.loop-preserved
loop-preserved c = grind (arith, declarations_step)

pub returns : goal.returns
returns c = grind (arith, declarations_done)
