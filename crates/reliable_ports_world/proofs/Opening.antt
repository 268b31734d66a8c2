-- A network at its beginning carries nothing.
use Rattle.std.proofs.Common.{List, [], ◌∷◌, map, ap}
use Rattle.std.specs.List.{AllByRecursion}
use Rattle.network_config.specs.declared.schedule.Topology.{Topology}
use Rattle.network_config.specs.declared.schedule.HostSpec.{HostSpec}
use Rattle.node_core_spec.specs.State.{new_node}
use Rattle.node_core_spec.proofs.Keeping.{none_kept}
use Rattle.service_registry_spec.specs.Beginning.{present_without}
use Rattle.service_registry_spec.specs.Serving.{offer}
use Rattle.net_world_spec.specs.World.{first_moment, opening, opening_node}
use Rattle.reliable_ports_world.specs.Known.{StampedKnown, NodeKnown, WorldKnown}
use Rattle.reliable_ports_world.specs.Allowed.{port_allowed, AllPresent}

nodes_known : (t : Topology) (hs : List HostSpec) → AllByRecursion AllPresent hs → AllByRecursion (NodeKnown (port_allowed (offer (present_without [])) [] 1)) (map (opening_node t) hs)
unfolding opening_node new_node
nodes_known t [] h = tt
nodes_known t (s ∷ ss) h = (record { queues = none_kept (StampedKnown (port_allowed (offer (present_without [])) [] 1)) (first_moment t.version); offer = ap (λ m. offer (present_without m)) h.0 }, nodes_known t ss h.1)

pub opening_known : (t : Topology) → AllByRecursion AllPresent t.hosts → WorldKnown (port_allowed (offer (present_without [])) [] 1) (opening t)
unfolding opening
opening_known t h = record { nodes = nodes_known t t.hosts h; wire = tt }
