use Rattle.node_core_spec.specs.Node.{stamped_step}
use Rattle.net_world.proofs.StandLaws.{stepped_where}
use Rattle.net_world.proofs.nodes.hand_to.Goals as goal

pub returns : goal.returns
returns g c = λ states a marked.
    stepped_where _ (λ node. stamped_step node c.args.dev c.args.frame.now) c.args.nodes.now c.args.at c.index-nodes-at.result c.arrive_spelled.new.self c.arrive_spelled.result states c.requires a
    (λ s there n. c.arrive_spelled.ensures.ok s n (marked s there))
