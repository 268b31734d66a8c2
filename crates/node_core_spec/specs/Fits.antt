-- What every node keeps.
use Rattle.std.specs.Prelude.{◌≡◌, ◌≤◌, ◌<◌, ◌^◌, false, List, length, Option, None, Some, All}
use Rattle.plan_base.specs.declared.ids.Host.{Host}
use Rattle.plan_base.specs.declared.tree.Packet.{Packet}
use Rattle.plan_types_spec.specs.Handlers.{MayHandle}
use Rattle.packet_frame.specs.declared.frame.PlainFrame.{PlainFrame}
use Rattle.packet_frame.specs.declared.frame.PlainStamped.{PlainStamped}
use Rattle.plan_base.specs.declared.stamp.Stamp.{Stamp}
use Rattle.plan_base.specs.declared.stamp.Version.{Version}
use Rattle.plan_base.specs.declared.stamp.Version.TheVariants.{One, Two}
use Rattle.service_api.specs.Adverts.{AdvertFits}
use Rattle.service_api.specs.Services.{ServiceState, IsGood, IsGoodChunk}
use Rattle.wire_bytes.specs.Fields.{IsBytes}
use Rattle.dv_routing.specs.Sorted.{HostsAscend, HostsDiffer}
use Rattle.network_config.specs.declared.node.NodeConfig.{NodeConfig}
use Rattle.network_config.specs.declared.event.Event.{Event}
use Rattle.network_config.specs.declared.event.Event.TheVariants as event
use Rattle.network_config.specs.Rules.{IsLinkDevice, MayName, KeepsInjection}
use Rattle.network_config.specs.NodeRules.{DevicesAscend}
use Rattle.node_core_spec.specs.State.{Queues, NodeState}

-- the bound is at most 65,535, the chunk is typed and well formed, and the handler, if there is one, may handle
pub record PacketFits (p : Packet) : Type 0 where
  pub bound : p.bound ≤ 65535
  pub chunk : IsGoodChunk p.chunk
  pub handler : MayHandle p.chunk p.handler

-- a frame on its way is such a packet, or an advert within its limits
abbrev pub FrameKeeps : PlainFrame → Type 0
FrameKeeps (PlainFrame.Packet p) = PacketFits p
FrameKeeps (PlainFrame.Advert a) = AdvertFits a
FrameKeeps (PlainFrame.Ask bound chunk) = ⊥

-- what the frames of a version bear: a stamp under version 2 alone
abbrev pub IsMarked : Version → Option Stamp → Type 0
IsMarked One stamp = stamp ≡ None
IsMarked Two None = ⊥
IsMarked Two (Some s) = Unit {0}

-- a frame on its way from a node of a version
pub record StampedKeeps (v : Version) (x : PlainStamped) : Type 0 where
  pub frame : FrameKeeps x.frame
  pub mark : IsMarked v x.stamp

-- queues keep their room, and each frame keeps this
pub record QueuesKeep (P : PlainStamped → Type 0) (queues : Queues) : Type 0 where
  pub room : All (λ lane. length lane.frames ≤ 64) queues
  pub frames : All (λ lane. All P lane.frames) queues

-- services keep their laws, and no visit is open
pub record ServicesFit (n : ServiceState) : Type 0 where
  pub good : IsGood n
  pub closed : n.begun ≡ None
  pub waits : n.ready ≡ false

-- the hosts of a network: at most 32, ascending
pub record HostsFit (hosts : List Host) : Type 0 where
  pub few : length hosts ≤ 32
  pub ascend : HostsAscend None hosts
  pub numbers : All (λ h. h.0 < 2 ^ 32) hosts

-- what every node keeps: at most 8 neighbours, by device
pub record NodeFits (node : NodeState) : Type 0 where
  pub here : node.here.0 < 2 ^ 32
  pub hosts : HostsFit node.hosts
  pub near : length node.neighbours ≤ 8
  pub ordered : DevicesAscend node.neighbours
  pub services : ServicesFit node.services
  pub queues : QueuesKeep (StampedKeeps node.version) node.queues
  pub serial : node.serial < 2 ^ 64
  pub now : node.now < 2 ^ 64

-- the hosts of a network as they are named: at most 32, none twice
pub record NetworkFits (hosts : List Host) : Type 0 where
  pub few : length hosts ≤ 32
  pub differ : HostsDiffer hosts

-- how a node may begin: its neighbours are on devices from 1 to 8, each once, in order
pub record ConfigFits (c : NodeConfig) : Type 0 where
  pub hosts : NetworkFits c.hosts
  pub devices : All (λ n. IsLinkDevice n.1) c.neighbours
  pub ordered : DevicesAscend c.neighbours

-- an injected bound is at most 65,535, its handler may stand in this version, and a device is at most 8
abbrev pub comes_within : Version → Event → Type 0
comes_within version (event.Inject chunk bound handler) = (bound ≤ 65535) × MayName version chunk handler
comes_within version (event.Frame d bytes) = d.0 ≤ 8
comes_within version _ = Unit {0}

-- what comes to a node of this version keeps the limits
abbrev pub comes_fit : Version → Event → Type 0
comes_fit version (event.Inject chunk bound handler) = KeepsInjection version chunk bound handler
comes_fit version (event.Frame d bytes) = IsBytes bytes
comes_fit version (event.Control bytes) = IsBytes bytes
comes_fit version _ = Unit {0}
