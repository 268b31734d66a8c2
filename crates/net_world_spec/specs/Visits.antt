-- The visits that an event makes, and when they end well.
use Rattle.std.specs.Prelude.{ℕ, zero, suc, ◌==◌, if◌then◌else◌, List, [], ◌∷◌, slice_get, Option, Some, None, Result, Ok, Err}
use Rattle.plan_base.specs.declared.ids.Host.{Host}
use Rattle.plan_base.specs.declared.name.Name.{Name}
use Rattle.plan_base.specs.declared.tree.Chunk.{Chunk}
use Rattle.plan_base.specs.declared.tree.Packet.{Packet}
use Rattle.packet_frame.specs.declared.frame.PlainFrame.{PlainFrame}
use Rattle.packet_frame.specs.declared.fault.FrameFault.{FrameFault}
use Rattle.packet_frame.specs.declared.frame.PlainStamped.{PlainStamped}
use Rattle.replay_window.specs.declared.window.Took.{Took}
use Rattle.replay_window.specs.declared.window.Took.TheVariants.{Fresh}
use Rattle.plan_base.specs.declared.ids.Dev.{Dev}
use Rattle.packet_frame.specs.Decoding.{read_by}
use Rattle.service_api.specs.Services.{begun_now}
use Rattle.plan_meaning.specs.Laws.{VisitEnds}
use Rattle.network_config.specs.declared.event.WorldEvent.{WorldEvent}
use Rattle.network_config.specs.declared.event.WorldEvent.TheVariants.{Inject, Deliver, Repeat, Raw}
use Rattle.node_core_spec.specs.declared.acts.Act.{Act}
use Rattle.node_core_spec.specs.declared.acts.Act.TheVariants.{Ended}
use Rattle.node_core_spec.specs.State.{NodeState, is_host}
use Rattle.node_core_spec.specs.Node.{next_serial, injected_packet, takes_as}
use Rattle.node_core_spec.specs.Visits.{around, evaluated_packet, HasCase}
use Rattle.net_world_spec.specs.declared.lines.Line.{Line}
use Rattle.net_world_spec.specs.declared.lines.Line.TheVariants.{At}
use Rattle.net_world_spec.specs.declared.lines.FrameOnWire.{FrameOnWire}
use Rattle.net_world_spec.specs.World.{WorldState, place_of, wire_place, happens}

-- a visit: the node as it stands then, and the packet
pub record Visiting : Type 0 where
  pub node : NodeState
  pub packet : Packet

abbrev pub one_visit : NodeState → Packet → List Visiting
one_visit node p = record { node = node; packet = p } ∷ []

-- ---- at a node

-- a packet is visited at its own host
abbrev pub frame_visits : PlainFrame → NodeState → List Visiting
frame_visits (PlainFrame.Packet p) node = if is_host p.dest node.here then one_visit node p else []
frame_visits _ node = []

abbrev pub visits_as : Took → PlainFrame → NodeState → List Visiting
visits_as Fresh x node = frame_visits x node
visits_as _ x node = []

-- where it is fresh on its device
unfoldable pub stamped_visits : Dev → PlainStamped → NodeState → List Visiting
stamped_visits d x node = visits_as (takes_as node.seen d x.stamp) x.frame node

abbrev pub read_visits : Dev → Result PlainStamped FrameFault → NodeState → List Visiting
read_visits d (Ok x) node = stamped_visits d x node
read_visits d (Err e) node = []

abbrev pub bytes_visits : Dev → List ℕ → NodeState → List Visiting
bytes_visits d bytes node = read_visits d (read_by node.version bytes) node

-- an injected chunk is visited at once, where a serial number is left
abbrev pub chunk_visits : Chunk → ℕ → Option Name → NodeState → List Visiting
chunk_visits chunk bound handler node =
    if node.serial == 18446744073709551615 then [] else one_visit (next_serial node) (injected_packet node chunk bound handler)

-- ---- in a network

-- the item at a place, where there is one
abbrev pub item_at : {X : Type 0} → List X → Option ℕ → Option X
item_at xs None = None
item_at xs (Some at) = slice_get xs at

abbrev pub at_node : (NodeState → List Visiting) → Option NodeState → List Visiting
at_node visits None = []
at_node visits (Some node) = visits node

-- the visits at a host's node
unfoldable pub at_host : WorldState → Host → (NodeState → List Visiting) → List Visiting
at_host w h visits = at_node visits (item_at w.nodes (place_of w.nodes h))

abbrev pub of_wired : WorldState → Option FrameOnWire → List Visiting
of_wired w None = []
of_wired w (Some x) = at_host w x.to.host (stamped_visits x.to.dev x.frame)

-- the visits of a frame that is handed
unfoldable pub delivered_visits : WorldState → ℕ → List Visiting
delivered_visits w number = of_wired w (item_at w.wire (wire_place w.wire number))

-- the visits that an event makes
abbrev pub event_visits : WorldState → WorldEvent → List Visiting
event_visits w (Inject h chunk bound handler) = at_host w h (chunk_visits chunk bound handler)
event_visits w (Deliver number) = delivered_visits w number
event_visits w (Repeat number) = delivered_visits w number
event_visits w (Raw h d bytes) = at_host w h (bytes_visits d bytes)
event_visits w _ = []

-- the visits of the event behind the first k of a run
abbrev pub visits_after : ℕ → List WorldEvent → WorldState → List Visiting
visits_after k [] w = []
visits_after zero (e ∷ es) w = event_visits w e
visits_after (suc k) (e ∷ es) w = visits_after k es (happens w e).world

-- ---- how they end

-- the ends of visits among lines
abbrev pub act_ends : Act → ℕ
act_ends (Ended f o evals rest) = 1
act_ends _ = 0

abbrev pub line_ends : Line → ℕ
line_ends (At h act) = act_ends act
line_ends _ = 0

-- the visit never is without a case, and with some allowance of work it ends by itself
pub record EndsWell (v : Visiting) : Type 0 where
  pub case : HasCase (evaluated_packet (around v.node v.packet) (begun_now v.node.services) v.packet)
  pub ends : VisitEnds v.packet.chunk (around v.node v.packet) v.packet.family (begun_now v.node.services)
