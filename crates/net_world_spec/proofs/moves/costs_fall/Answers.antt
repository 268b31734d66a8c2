use Rattle.net_world_spec.proofs.Walking.{hop_falls}
use Rattle.net_world_spec.proofs.moves.costs_fall.Goals as goal

pub returns : goal.returns
returns c = hop_falls
