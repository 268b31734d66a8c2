use Rattle.plan_eval_state.proofs.Lawful as law
use Rattle.plan_eval_state.proofs.laws.turns.Goals as goal

pub returns : goal.returns
returns c = record {
  begins = law.begins_onto;
  passes = law.passes_out;
  ends = law.whole_ends;
}
