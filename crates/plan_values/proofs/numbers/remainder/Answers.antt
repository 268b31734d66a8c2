use Rattle.std.proofs.Common.{arith}
use Rattle.plan_values.proofs.NumberLaws.{remainders}
use Rattle.plan_values.proofs.numbers.remainder.Goals as goal

pub returns-then-b-eq0 : goal.returns-then-b-eq0
returns-then-b-eq0 c = grind (arith, remainders)

pub returns : goal.returns
returns c = grind (arith, remainders)
