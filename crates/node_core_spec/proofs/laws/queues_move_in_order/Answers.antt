use Rattle.node_core_spec.proofs.Orders.{step_moves}
use Rattle.node_core_spec.proofs.laws.queues_move_in_order.Goals as goal

pub returns : goal.returns
returns c = step_moves
