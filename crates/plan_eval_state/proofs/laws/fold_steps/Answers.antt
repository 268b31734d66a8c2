use Rattle.plan_eval_state.proofs.Lawful as law
use Rattle.plan_eval_state.proofs.laws.fold_steps.Goals as goal

pub returns : goal.returns
returns c = record {
  steps = law.fold_steps;
  further = law.fold_goes_on;
  ends = law.fold_ends;
}
