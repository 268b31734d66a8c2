use Rattle.std.proofs.Common.{arith}
use Rattle.plan_types_spec.proofs.Same.{same_value_decides}
use Rattle.plan_values.proofs.operators.same.Goals as goal

pub returns : goal.returns
returns c = grind (arith, same_value_decides)
