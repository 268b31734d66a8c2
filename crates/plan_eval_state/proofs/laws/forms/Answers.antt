use Rattle.plan_eval_state.proofs.Lawful as law
use Rattle.plan_eval_state.proofs.laws.forms.Goals as goal

pub returns : goal.returns
returns c = record {
  branches = law.chooses;
  lets = law.binds;
  calls = law.calls;
  folds = law.folds;
  evals = law.evals;
}
