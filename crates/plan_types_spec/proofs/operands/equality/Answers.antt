use Rattle.plan_types_spec.proofs.Same.{same_value_decides}
use Rattle.plan_types_spec.proofs.operands.equality.Goals as goal

pub returns : goal.returns
returns c = λ a b. ((same_value_decides a b).0, (same_value_decides a b).1)
