use Rattle.plan_eval_state.proofs.Lawful as law
use Rattle.plan_eval_state.proofs.laws.work.Goals as goal

pub returns : goal.returns
returns c = record {
  begun = law.lasts_spends;
  parts = law.spends_lasts;
  settled = law.settled_lasts;
  wakes = law.wakes_less;
  goes = law.goes_less;
}
