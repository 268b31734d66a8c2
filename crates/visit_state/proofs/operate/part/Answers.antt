use Rattle.plan_types_spec.specs.Rules as rules
use Rattle.visit_state.proofs.operate.part.Goals as goal

pub returns : goal.returns
returns c = c.answer_end.ensures (rules.part c.args.i c.args.v.now) c.part.ensures.answers
