use Rattle.node_core_spec.proofs.VisitLaws.{visit_keeps}
use Rattle.node_core_spec.proofs.laws.visit_balance.Goals as goal

pub returns : goal.returns
returns c = visit_keeps
