use Rattle.std.proofs.Common.{[]}
use Rattle.node_core_spec.specs.Node.{inject_step}
use Rattle.net_world.proofs.StandLaws.{stepped_where}
use Rattle.net_world.proofs.nodes.inject_at.Goals as goal

pub returns : goal.returns
returns g c = λ states a named.
    stepped_where _ (λ node. inject_step [] node c.args.chunk c.args.bound c.args.handler) c.args.nodes.now c.args.at c.index-nodes-at.result c.inject_one.new.node c.inject_one.result states c.requires.within a
    (λ s there n. c.inject_one.ensures s n (named s there))
