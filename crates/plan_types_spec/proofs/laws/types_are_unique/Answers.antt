use Rattle.plan_types_spec.proofs.Unique.{one_type}
use Rattle.plan_types_spec.proofs.laws.types_are_unique.Goals as goal

pub returns : goal.returns
returns c = one_type
