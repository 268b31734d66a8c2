use Rattle.plan_types_spec.specs.Rules as rules
use Rattle.visit_state.proofs.operate.primitive.Goals as goal

pub returns : goal.returns
returns c = c.answer_end.ensures (rules.primitive c.args.p c.args.args.now) c.primitive.ensures.answers
