use Rattle.net_world_spec.proofs.Orders.{all_ordered}
use Rattle.net_world_spec.proofs.laws.contexts_are_ordered.Goals as goal

pub returns : goal.returns
returns c = all_ordered
