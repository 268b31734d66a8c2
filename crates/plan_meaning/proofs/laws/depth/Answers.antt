use Rattle.plan_meaning.proofs.Deep.{deep_visit}
use Rattle.plan_meaning.proofs.laws.depth.Goals as goal

pub returns : goal.returns
returns c = deep_visit
