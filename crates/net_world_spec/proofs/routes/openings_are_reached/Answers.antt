use Rattle.net_world_spec.proofs.Reaching.{opening_reached}
use Rattle.net_world_spec.proofs.routes.openings_are_reached.Goals as goal

pub returns : goal.returns
returns c = opening_reached
