use Rattle.plan_meaning.proofs.Steady.{steadiness, visit_steadiness}
use Rattle.plan_meaning.proofs.laws.steadiness.Goals as goal

pub returns : goal.returns
returns c = record { parts = steadiness; visits = visit_steadiness }
