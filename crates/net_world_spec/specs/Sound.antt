-- What every network keeps.
use Rattle.std.specs.Prelude.{◌≡◌, ℕ, ◌+◌, ◌≤◌, ◌<◌, Bool, true, false, ◌==◌, ◌&&◌, if◌then◌else◌, Option, Some, None, List, [], ◌∷◌, length, All}
use Rattle.std.specs.List.{flat_map}
use Rattle.plan_base.specs.declared.ids.Host.{Host}
use Rattle.wire_bytes.specs.Fields.{IsBytes}
use Rattle.packet_frame.specs.declared.frame.PlainStamped.{PlainStamped}
use Rattle.plan_base.specs.declared.ids.Dev.{Dev}
use Rattle.plan_base.specs.declared.stamp.Stamp.{Stamp}
use Rattle.plan_base.specs.declared.stamp.Version.{Version}
use Rattle.plan_base.specs.declared.stamp.Version.TheVariants.{Two}
use Rattle.replay_window.specs.declared.window.Took.{Took}
use Rattle.replay_window.specs.declared.window.Took.TheVariants.{TooOld}
use Rattle.replay_window.specs.Seen.{is_fresh}
use Rattle.network_config.specs.declared.event.WorldEvent.{WorldEvent}
use Rattle.network_config.specs.declared.event.WorldEvent.TheVariants.{Inject, Send, Repeat, Raw}
use Rattle.network_config.specs.declared.schedule.Link.{Link}
use Rattle.checked_chunks.specs.Kept.{IsCheckedChunk}
use Rattle.network_config.specs.Rules.{IsLinkDevice, MayName, KeepsInjection}
use Rattle.node_core_spec.specs.State.{NodeState, is_host}
use Rattle.node_core_spec.specs.Node.{takes_as}
use Rattle.node_core_spec.specs.Fits.{StampedKeeps, NodeFits}
use Rattle.node_core_spec.specs.Numbers.{link_in, FitsAt}
use Rattle.net_world_spec.specs.declared.lines.FrameOnWire.{FrameOnWire}
use Rattle.net_world_spec.specs.World.{WorldState}

-- a frame's number is below the next one, it is to arrive on a device up to 8, and the frame keeps this
pub record WiredFits (P : PlainStamped → Type 0) (next : ℕ) (x : FrameOnWire) : Type 0 where
  pub number : x.number < next
  pub device : x.to.dev.0 ≤ 8
  pub frame : P x.frame

-- each key is above all before it, so no two are the same
abbrev pub Rise : {X : Type 0} → (X → ℕ) → List X → Type 0
Rise key [] = Unit {0}
Rise key (x ∷ xs) = All (λ y. key x < key y) xs × Rise key xs

-- a node is of this version, its queues and windows are nine, and its neighbours are on devices from 1 to 8
pub record DevicesFit (v : Version) (node : NodeState) : Type 0 where
  pub version : node.version ≡ v
  pub windows : length node.seen ≡ 9
  pub queues : length node.queues ≡ 9
  pub devices : All (λ link. IsLinkDevice link.1) node.neighbours

abbrev pub number_of : FrameOnWire → ℕ
number_of x = x.number

-- the first node of a host
abbrev pub node_of : List NodeState → Host → Option NodeState
node_of [] h = None
node_of (node ∷ nodes) h = if is_host node.here h then Some node else node_of nodes h

abbrev pub takes_at : Dev → Option Stamp → Option NodeState → Took
takes_at d s None = TooOld
takes_at d s (Some node) = takes_as node.seen d s

-- whether a frame's receiving end would take it as fresh
abbrev pub is_fresh_at : List NodeState → FrameOnWire → Bool
is_fresh_at nodes x = is_fresh (takes_at x.to.dev x.frame.stamp (node_of nodes x.to.host))

-- a frame that was handed isn't fresh at its receiving end
abbrev pub IsStaleAt : List NodeState → FrameOnWire → Type 0
IsStaleAt nodes x = x.handed ≡ true → is_fresh_at nodes x ≡ false

-- whether this device of this host sent a frame
abbrev pub is_from : Host → ℕ → FrameOnWire → Bool
is_from h d x = is_host x.from.host h && x.from.dev.0 == d

abbrev pub from_numbers : Host → ℕ → FrameOnWire → List ℕ
from_numbers h d x = if is_from h d x then link_in x.frame.stamp else []

-- the numbers of the frames on the wire which a device sent
abbrev pub sent_numbers : Host → ℕ → List FrameOnWire → List ℕ
sent_numbers h d wire = flat_map (from_numbers h d) wire

-- the numbers of each device's frames, on the wire and then in its queue, ascend and are below its next one; only stamps have numbers
abbrev pub NumbersDiffer : List NodeState → List FrameOnWire → Type 0
NumbersDiffer nodes wire = (h : Host) (node : NodeState) → node_of nodes h ≡ Some node → (d : ℕ) → FitsAt (sent_numbers h d wire) d node.queues

-- both ends of a link are devices from 1 to 8
abbrev pub LinkFits : Link → Type 0
LinkFits l = IsLinkDevice l.from_dev × IsLinkDevice l.to_dev

-- what every network keeps
pub record IsSound (w : WorldState) : Type 0 where
  pub nodes : All NodeFits w.nodes
  pub devices : All (DevicesFit w.version) w.nodes
  pub links : All LinkFits w.links
  pub wire : All (WiredFits (StampedKeeps w.version) w.«next») w.wire
  pub stale : All (IsStaleAt w.nodes) w.wire
  pub differ : NumbersDiffer w.nodes w.wire
  pub once : Rise number_of w.wire
  pub room : length w.wire ≤ 4096
  pub numbers : w.«next» ≤ w.made + 1

-- what is injected keeps its limits, a device is at most 8, and a frame is repeated under version 2 alone
abbrev pub event_fits : Version → WorldEvent → Type 0
event_fits v (Inject h chunk bound handler) = KeepsInjection v chunk bound handler
event_fits v (Send h d) = d.0 ≤ 8
event_fits v (Raw h d bytes) = (d.0 ≤ 8) × IsBytes bytes
event_fits v (Repeat number) = v ≡ Two
event_fits v _ = Unit {0}

-- what an event asks of its maker: a bound of at most 65,535 and a handler of its version, devices up to 8, repeats under version 2 alone
abbrev pub event_within : Version → WorldEvent → Type 0
event_within v (Inject h chunk bound handler) = (bound ≤ 65535) × MayName v chunk handler
event_within v (Send h d) = d.0 ≤ 8
event_within v (Raw h d bytes) = d.0 ≤ 8
event_within v (Repeat number) = v ≡ Two
event_within v _ = Unit {0}

-- what the types of an event's parts keep: an injected chunk is typed, and bytes are below 256
abbrev pub event_typed : WorldEvent → Type 0
event_typed (Inject h chunk bound handler) = IsCheckedChunk chunk
event_typed (Raw h d bytes) = IsBytes bytes
event_typed _ = Unit {0}

abbrev pub EventsFit : Version → List WorldEvent → Type 0
EventsFit v events = All (event_fits v) events
