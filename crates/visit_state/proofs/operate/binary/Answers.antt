use Rattle.plan_types_spec.specs.Rules as rules
use Rattle.visit_state.proofs.operate.binary.Goals as goal

pub returns : goal.returns
returns c = c.answer_end.ensures (rules.binary c.args.op c.args.a.now c.args.b.now) c.binary.ensures.answers
