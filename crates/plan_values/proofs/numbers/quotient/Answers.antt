use Rattle.std.proofs.Common.{arith}
use Rattle.plan_values.proofs.NumberLaws.{quotients}
use Rattle.plan_values.proofs.numbers.quotient.Goals as goal

pub returns-then-b-eq0 : goal.returns-then-b-eq0
returns-then-b-eq0 c = grind (arith, quotients)

pub returns-in-Some : goal.returns-in-Some
returns-in-Some c = grind (arith, quotients)

pub returns-in-None : goal.returns-in-None
returns-in-None c = grind (arith, quotients)
