-- Which events may come to a node.
use Rattle.std.proofs.Common.{Option, Some, None, IfSome}
use Rattle.plan_base.specs.declared.stamp.Version.{Version}
use Rattle.network_config.specs.declared.event.Event.{Event}
use Rattle.network_config.specs.NodeRules.{KeepsNodeEvent}
use Rattle.node_log.proofs.Within.{comes_as}
use Rattle.node_serve.specs.Steps.{MayCome}

-- one that keeps the limits of every version
pub may_come_always : (plan node : Version) (e : Option Event) → ((v : Version) → IfSome e (KeepsNodeEvent v)) → MayCome plan node e
may_come_always plan node (Some e) keeps = record { keeps = keeps plan; within = comes_as node e (keeps node) }
may_come_always plan node None keeps = record { keeps = tt; within = tt }
