use Rattle.net_world_spec.proofs.Reaching.{ways_short}
use Rattle.net_world_spec.proofs.routes.ways_are_short.Goals as goal

pub returns : goal.returns
returns c = ways_short
