use Rattle.node_core_spec.specs.Node.{arrive_step}
use Rattle.net_world.proofs.StandLaws.{stepped_at}
use Rattle.net_world.proofs.nodes.arrive_at.Goals as goal

pub returns : goal.returns
returns g c = stepped_at _ (λ node. arrive_step node c.args.dev c.args.bytes.now) c.args.nodes.now c.args.at c.index-nodes-at.result c.arrive.new.self c.arrive.result c.requires c.arrive.ensures.ok
