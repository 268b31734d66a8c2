use Rattle.plan_meaning.proofs.Sound.{soundness, visit_soundness}
use Rattle.plan_meaning.proofs.laws.soundness.Goals as goal

pub returns : goal.returns
returns c = record { parts = soundness; visits = visit_soundness }
