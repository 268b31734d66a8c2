use Rattle.node_core_spec.proofs.VisitLaws.{settled_keeps}
use Rattle.node_core_spec.proofs.laws.settled_visit_balance.Goals as goal

pub returns : goal.returns
returns c = settled_keeps
