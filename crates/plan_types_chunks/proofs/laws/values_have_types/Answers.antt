use Rattle.plan_types_chunks.proofs.Values.{value_law}
use Rattle.plan_types_chunks.proofs.laws.values_have_types.Goals as goal

pub returns : goal.returns
returns c = value_law
