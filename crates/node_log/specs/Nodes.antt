-- The node whose steps a log has.
use Rattle.service_registry_spec.specs.Beginning.{opening_standing, present_without}
use Rattle.network_config.specs.declared.node.Log.{Log}
use Rattle.node_core_spec.specs.State.{NodeState, new_node}

-- the node of a log: new, with the services that it doesn't lack, and no rows
abbrev pub log_node : Log → NodeState
log_node l = new_node l.node (opening_standing (present_without l.missing))
