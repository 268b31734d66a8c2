use Rattle.node_core_spec.specs.Node.{tick_step}
use Rattle.net_world.proofs.StandLaws.{stepped_at}
use Rattle.net_world.proofs.nodes.tick_at.Goals as goal

pub returns : goal.returns
returns g c = stepped_at _ tick_step c.args.nodes.now c.args.at c.index-nodes-at.result c.tick.new.self c.tick.result c.requires c.tick.ensures.ok
