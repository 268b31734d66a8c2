use Rattle.net_world_spec.proofs.Walking.{arrival_routes}
use Rattle.net_world_spec.proofs.moves.packets_have_routes.Goals as goal

pub returns : goal.returns
returns c = arrival_routes
