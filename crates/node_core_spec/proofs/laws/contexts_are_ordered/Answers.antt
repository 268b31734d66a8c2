use Rattle.node_core_spec.proofs.Contexts.{node_ordered}
use Rattle.node_core_spec.proofs.laws.contexts_are_ordered.Goals as goal

pub returns : goal.returns
returns c = node_ordered
