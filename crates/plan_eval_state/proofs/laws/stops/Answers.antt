use Rattle.plan_eval_state.proofs.Lawful as law
use Rattle.plan_eval_state.proofs.laws.stops.Goals as goal

pub returns : goal.returns
returns c = record {
  tries = law.tries;
  catches = law.catches;
  none = law.catches_none;
  others = law.stops;
}
