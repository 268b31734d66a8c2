use Rattle.net_world.proofs.OpeningLaws.{begins}
use Rattle.net_world.proofs.opening.open_node.Goals as goal

pub new-requires-clause-config : goal.new-requires-clause-config
new-requires-clause-config g c = begins c.args.topology.now c.args.host.now c.in_ok-config.config c.requires.rules c.in_ok-config.ensures
