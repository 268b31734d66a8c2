use Rattle.plan_meaning.proofs.Within.{meaning_is_fixed}
use Rattle.plan_meaning.proofs.laws.fixed.Goals as goal

pub returns : goal.returns
returns c = meaning_is_fixed
