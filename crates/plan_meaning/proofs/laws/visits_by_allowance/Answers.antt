use Rattle.plan_meaning.proofs.Allowances.{visits_alike, spent_exactly}
use Rattle.plan_meaning.proofs.laws.visits_by_allowance.Goals as goal

pub returns : goal.returns
returns c = record { alike = visits_alike; spent = spent_exactly }
