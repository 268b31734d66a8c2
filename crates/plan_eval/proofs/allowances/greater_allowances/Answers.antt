use Rattle.plan_eval.proofs.Greater.{visit_again}
use Rattle.plan_eval.proofs.allowances.greater_allowances.Goals as goal

pub returns : goal.returns
returns c = visit_again
