use Rattle.net_world_spec.proofs.Reaching.{reached_dist}
use Rattle.net_world_spec.proofs.routes.costs_are_distances.Goals as goal

pub returns : goal.returns
returns c = reached_dist
