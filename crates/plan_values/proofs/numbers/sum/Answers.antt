use Rattle.std.proofs.Common.{arith}
use Rattle.plan_values.proofs.NumberLaws.{bounds}
use Rattle.plan_values.proofs.numbers.sum.Goals as goal

pub returns-in-Some : goal.returns-in-Some
returns-in-Some c = grind (arith, bounds)

pub returns-in-None : goal.returns-in-None
returns-in-None c = grind (arith, bounds)
