use Rattle.plan_meaning.proofs.Growing.{growth, visit_growth}
use Rattle.plan_meaning.proofs.laws.growth.Goals as goal

pub returns : goal.returns
returns c = record { parts = growth; visits = visit_growth }
