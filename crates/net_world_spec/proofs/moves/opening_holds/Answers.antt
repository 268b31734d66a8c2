use Rattle.net_world_spec.proofs.Walking.{opening_true}
use Rattle.net_world_spec.proofs.moves.opening_holds.Goals as goal

pub returns : goal.returns
returns c = opening_true
