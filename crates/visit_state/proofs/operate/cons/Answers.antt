use Rattle.plan_base.specs.declared.tree.Value.{out-Value}
use Rattle.plan_types_spec.specs.Rules as rules
use Rattle.visit_state.proofs.operate.cons.Goals as goal

pub returns : goal.returns
returns c = c.unweighed_end.ensures (rules.put_first c.args.x (out-Value c.args.xs)) c.cons.ensures
