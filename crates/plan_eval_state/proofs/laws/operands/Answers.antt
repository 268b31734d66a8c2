use Rattle.plan_eval_state.proofs.Lawful as law
use Rattle.plan_eval_state.proofs.laws.operands.Goals as goal

pub returns : goal.returns
returns c = record {
  pays = law.pays_first;
  first = law.begins_first;
  bare = law.begins_bare;
  next = law.goes_on;
  last = law.makes_last;
}
