use Rattle.node_core_spec.proofs.VisitLaws.{has_case}
use Rattle.node_core_spec.proofs.laws.visit_has_case.Goals as goal

pub returns : goal.returns
returns c = has_case
