use Rattle.net_world_spec.proofs.Walking.{cost_reaches, dist_within}
use Rattle.net_world_spec.proofs.moves.costs_reach.Goals as goal

pub returns : goal.returns
returns c = record { walk = cost_reaches; dist = dist_within }
