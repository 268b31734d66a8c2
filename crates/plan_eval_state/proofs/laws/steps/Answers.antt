use Rattle.plan_eval_state.proofs.Lawful as law
use Rattle.plan_eval_state.proofs.laws.steps.Goals as goal

pub returns : goal.returns
returns c = record {
  sees = law.step_sees;
  walks = law.step_walks;
  grown = law.waits_on;
}
