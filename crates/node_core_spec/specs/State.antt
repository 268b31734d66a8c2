-- The state of a node, and what it is at the beginning.
use Rattle.std.specs.Prelude.{ℕ, Bool, ◌==◌, ◌&&◌, not, false, List, [], Option, Some, None, ◌∷◌, replicate, if◌then◌else◌}
use Rattle.plan_base.specs.declared.ids.Host.{Host}
use Rattle.plan_base.specs.declared.ids.Dev.{Dev}
use Rattle.plan_base.specs.declared.stamp.Version.{Version}
use Rattle.replay_window.specs.Seen.{Seen, nothing_seen}
use Rattle.service_api.specs.declared.advert.Advert.{Advert}
use Rattle.service_api.specs.Services.{ServiceState}
use Rattle.network_config.specs.declared.node.NodeConfig.{NodeConfig}
use Rattle.node_core_spec.specs.declared.acts.TxQueue.{TxQueue}
use Rattle.dv_routing.specs.Routing.{Routing}
use Rattle.dv_routing.specs.Sorted.{sorted_into}

-- whether these are the same host
abbrev pub is_host : Host → Host → Bool
is_host a b = a.0 == b.0

-- neighbours, each with its device
abbrev pub Links : Type 0
Links = List (Host × Dev)

-- the frames queued on each device, from device 0, and the number of the next one
abbrev pub Queues : Type 0
Queues = List TxQueue

-- a node: its host, the hosts of its network, its neighbours by device, all adverts that it heard with their devices, what its
-- services stand for, its queues, the serial number of its next injection, its time in ticks, its version, the moment at which it
-- began, and what each device has taken, from device 0
pub record NodeState : Type 0 where
  pub here : Host
  pub hosts : List Host
  pub neighbours : Links
  pub heard : List (Dev × Advert)
  pub services : ServiceState
  pub queues : Queues
  pub serial : ℕ
  pub now : ℕ
  pub version : Version
  pub boot : ℕ
  pub seen : List Seen

-- what the node's routes come from
abbrev pub routing_of : NodeState → Routing
routing_of node = record { here = node.here; hosts = node.hosts; neighbours = node.neighbours; heard = node.heard }

-- the neighbour on a device
abbrev pub neighbour_on : Links → Dev → Option Host
neighbour_on [] d = None
neighbour_on (link ∷ links) d = if link.1.0 == d.0 then Some link.0 else neighbour_on links d

abbrev pub is_the_host : Option Host → Host → Bool
is_the_host None h = false
is_the_host (Some g) h = is_host g h

-- whether a device leads to this neighbour; device 0 leads to none
abbrev pub leads_to : Links → Dev → Host → Bool
leads_to links d h = not (d.0 == 0) && is_the_host (neighbour_on links d) h

-- a device with nothing queued, and the number of its first frame
abbrev pub no_lane : ℕ → TxQueue
no_lane link = record { frames = []; number = link }

-- nine devices with nothing queued
abbrev pub no_queues : ℕ → Queues
no_queues link = replicate 9 (no_lane link)

-- nine devices that have taken nothing
abbrev pub none_seen : List Seen
none_seen = replicate 9 nothing_seen

-- a node at the beginning: it has heard nothing, nothing is queued, and its time is 0
unfoldable pub new_node : NodeConfig → ServiceState → NodeState
new_node config services = record {
  here = config.here;
  hosts = sorted_into [] config.hosts;
  neighbours = config.neighbours;
  heard = [];
  services = services;
  queues = no_queues config.link;
  serial = config.serial;
  now = 0;
  version = config.version;
  boot = config.boot;
  seen = none_seen;
}
