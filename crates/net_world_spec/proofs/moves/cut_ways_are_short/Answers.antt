use Rattle.net_world_spec.proofs.Walking.{ways_short}
use Rattle.net_world_spec.proofs.moves.cut_ways_are_short.Goals as goal

pub returns : goal.returns
returns c = ways_short
