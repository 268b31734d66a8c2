use Rattle.plan_eval_state.proofs.Lawful as law
use Rattle.plan_eval_state.proofs.laws.names.Goals as goal

pub returns : goal.returns
returns c = record {
  there = law.names_stand;
  nowhere = law.no_name_stands;
}
