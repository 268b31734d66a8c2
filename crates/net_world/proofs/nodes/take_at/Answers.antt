use Rattle.std.specs.Prelude.{slice_set}
use Rattle.node_core_spec.specs.Node.{take_step}
use Rattle.net_world.proofs.StandLaws.{stepped_at, unchanged_at}
use Rattle.net_world.proofs.nodes.take_at.Goals as goal

pub returns-clause-step : goal.returns-clause-step
returns-clause-step g c = stepped_at _ (λ node. take_step node c.args.dev) c.args.nodes.now c.args.at c.index-nodes-at.result c.take.new.self c.take.result c.requires c.take.ensures.ok

pub returns-clause-same : goal.returns-clause-same
returns-clause-same g c = λ states h. unchanged_at _ c.args.dev (slice_set c.args.nodes.now c.args.at c.take.new.self) c.args.at c.take.result states
    (stepped_at _ (λ node. take_step node c.args.dev) c.args.nodes.now c.args.at c.index-nodes-at.result c.take.new.self c.take.result c.requires c.take.ensures.ok states h)
