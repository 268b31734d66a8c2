use Rattle.plan_meaning.proofs.Longer.{allowance, visit_allowance}
use Rattle.plan_meaning.proofs.laws.allowance.Goals as goal

pub returns : goal.returns
returns c = record { parts = allowance; visits = visit_allowance }
