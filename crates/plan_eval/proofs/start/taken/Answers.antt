use Rattle.plan_eval.proofs.Starting.{took}
use Rattle.plan_eval.proofs.start.taken.Goals as goal

pub returns-in-Done : goal.returns-in-Done
returns-in-Done c = λ pre want n h. took c.args.came c.args.run pre want n c.last_value.result c.in-Done.is h c.last_value.ensures
