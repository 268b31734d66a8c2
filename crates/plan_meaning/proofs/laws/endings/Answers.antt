use Rattle.plan_meaning.proofs.Sound.{ends, visit_ends}
use Rattle.plan_meaning.proofs.laws.endings.Goals as goal

pub returns : goal.returns
returns c = record { parts = ends; visits = visit_ends }
