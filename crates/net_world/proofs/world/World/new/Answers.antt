use Rattle.net_world_spec.proofs.Opening.{opening_sound}
use Rattle.net_world.proofs.world.World.new.Goals as goal

pub returns : goal.returns
returns g c = record { is = c.in_ok-network.ensures.stands; sound = opening_sound c.args.topology.now c.requires.rules }
