-- What a network does at each event, and in a whole run.
use Rattle.std.specs.Prelude.{ℕ, zero, suc, ◌+◌, Bool, true, false, ◌==◌, ◌&&◌, ◌||◌, nat_lt, if◌then◌else◌, List, [], ◌∷◌, ◌++◌, length}
use Rattle.std.specs.Prelude.{map, slice_get, slice_set, remove, position, Option, Some, None, Result, Ok, Err}
use Rattle.plan_base.specs.declared.ids.Host.{Host}
use Rattle.plan_base.specs.declared.ids.Dev.{Dev}
use Rattle.plan_base.specs.declared.name.Name.{Name}
use Rattle.plan_base.specs.declared.tree.Chunk.{Chunk}
use Rattle.packet_frame.specs.declared.frame.PlainFrame.{PlainFrame}
use Rattle.packet_frame.specs.declared.fault.FrameFault.{FrameFault}
use Rattle.packet_frame.specs.declared.frame.PlainStamped.{PlainStamped}
use Rattle.packet_frame.specs.Stamped.{stamped_bytes}
use Rattle.plan_base.specs.declared.stamp.Version.{Version}
use Rattle.plan_base.specs.declared.stamp.Version.TheVariants.{One, Two}
use Rattle.packet_frame.specs.Decoding.{read_by}
use Rattle.service_api.specs.Services.{ServiceState}
use Rattle.service_registry_spec.specs.Beginning.{opening_standing, present_without}
use Rattle.network_config.specs.declared.schedule.Link.{Link}
use Rattle.network_config.specs.declared.node.NodeConfig.{NodeConfig}
use Rattle.network_config.specs.declared.schedule.HostSpec.{HostSpec}
use Rattle.network_config.specs.declared.schedule.Topology.{Topology}
use Rattle.network_config.specs.declared.event.WorldEvent.{WorldEvent}
use Rattle.network_config.specs.declared.event.WorldEvent.TheVariants.{Inject, Send, Deliver, Repeat, Lose, Tick, Raw}
use Rattle.packet_frame.specs.Spelled.{what_of}
use Rattle.node_core_spec.specs.declared.acts.Act.{Act}
use Rattle.node_core_spec.specs.State.{Links, NodeState, is_host, new_node}
use Rattle.node_core_spec.specs.Node.{NodeStep, inject_step, stamped_step, arrive_step, tick_step, take_step}
use Rattle.net_world_spec.specs.declared.lines.Line.{Line}
use Rattle.net_world_spec.specs.declared.lines.Line.TheVariants.{At, Forged, Wire, Off, Again, Lost, Nothing}
use Rattle.net_world_spec.specs.declared.lines.Entry.{Entry}
use Rattle.net_world_spec.specs.declared.lines.LinkEnd.{LinkEnd}
use Rattle.net_world_spec.specs.declared.lines.FrameOnWire.{FrameOnWire}
use Rattle.net_world_spec.specs.declared.lines.Delivery.{Delivery}
use Rattle.net_world_spec.specs.declared.lines.Delivery.TheVariants.{Taking, Leaving}

-- links, each from a device of one host to a device of another
abbrev pub Cables : Type 0
Cables = List Link

-- a network: its nodes, its links, the frames on the wire by number, the number of the next frame, the number of events so far, and
-- its version
pub record WorldState : Type 0 where
  pub nodes : List NodeState
  pub links : Cables
  pub wire : List FrameOnWire
  pub «next» : ℕ
  pub made : ℕ
  pub version : Version

-- what an event gives: its lines, and the network afterwards
pub record EventResult : Type 0 where
  pub lines : List Line
  pub world : WorldState

abbrev pub happened_event : List Line → WorldState → EventResult
happened_event lines w = record { lines = lines; world = w }

abbrev pub nothing : WorldState → EventResult
nothing w = happened_event (Nothing ∷ []) w

-- the place of a host's node
abbrev pub place_of : List NodeState → Host → Option ℕ
place_of nodes h = position (λ node. is_host node.here h) nodes

-- ---- links

abbrev pub has_end : Host → Dev → Host → Dev → Bool
has_end h d g e = (g.0 == h.0) && (e.0 == d.0)

-- whether a device of a host is one of a link's ends
abbrev pub is_on : Host → Dev → Link → Bool
is_on h d c = has_end h d c.from c.from_dev || has_end h d c.to c.to_dev

-- the other end of a link
abbrev pub other_end : Host → Dev → Option Link → Option LinkEnd
other_end h d None = None
other_end h d (Some c) =
    if has_end h d c.from c.from_dev then Some (record { host = c.to; dev = c.to_dev }) else Some
    (record { host = c.from; dev = c.from_dev })

abbrev pub peer_at : Cables → Host → Dev → Option ℕ → Option LinkEnd
peer_at links h d None = None
peer_at links h d (Some at) = other_end h d (slice_get links at)

-- the end to which a link leads from a device of a host
unfoldable pub peer_of : Cables → Host → Dev → Option LinkEnd
peer_of links h d = peer_at links h d (position (is_on h d) links)

-- the same for every device; device 0 leads to the node itself
unfoldable pub far_end : Cables → Host → Dev → Option LinkEnd
far_end links h d = if d.0 == 0 then Some (record { host = h; dev = d }) else peer_of links h d

-- ---- steps of nodes

abbrev pub with_node : WorldState → ℕ → NodeState → WorldState
with_node w at node = record w { nodes = slice_set w.nodes at node }

-- what a node did at its step
unfoldable pub lines_at : Host → List Act → List Line
lines_at h acts = map (At h) acts

-- a step of the node at a place that moves nothing on the wire, after some lines
abbrev pub steps_at : WorldState → Host → ℕ → List Line → NodeStep → EventResult
steps_at w h at before step = happened_event (before ++ lines_at h step.acts) (with_node w at step.node)

-- a step of a host's node, behind what it says before; `nothing` where there is none
unfoldable pub step_at : WorldState → Host → (NodeState → List Line) → (NodeState → NodeStep) → ℕ → Option NodeState → EventResult
step_at w h before step at None = nothing w
step_at w h before step at (Some node) = steps_at w h at (before node) (step node)

unfoldable pub step_place : WorldState → Host → (NodeState → List Line) → (NodeState → NodeStep) → Option ℕ → EventResult
step_place w h before step None = nothing w
step_place w h before step (Some at) = step_at w h before step at (slice_get w.nodes at)

unfoldable pub steps : WorldState → Host → (NodeState → List Line) → (NodeState → NodeStep) → EventResult
steps w h before step = step_place w h before step (place_of w.nodes h)

-- ---- injections, ticks, and frames from outside

abbrev pub none_before : NodeState → List Line
none_before node = []

abbrev pub injects : WorldState → Host → Chunk → ℕ → Option Name → EventResult
injects w h chunk bound handler = steps w h none_before (λ node. inject_step [] node chunk bound handler)

abbrev pub ticks : WorldState → Host → EventResult
ticks w h = steps w h none_before tick_step

abbrev pub forged_frame : Host → PlainFrame → List Line
forged_frame h (PlainFrame.Packet p) = Forged h p.family p.bound ∷ []
forged_frame h _ = []

-- bytes from outside that are accepted as a packet grant its bound
abbrev pub forged_lines : Host → Result PlainStamped FrameFault → List Line
forged_lines h (Ok x) = forged_frame h x.frame
forged_lines h (Err e) = []

abbrev pub forged_at : Host → List ℕ → NodeState → List Line
forged_at h bytes node = forged_lines h (read_by node.version bytes)

abbrev pub raws : WorldState → Host → Dev → List ℕ → EventResult
raws w h d bytes = steps w h (forged_at h bytes) (λ node. arrive_step node d bytes)

-- ---- sends

-- the frame that the node took goes onto the wire under the next number
unfoldable pub send_taken : WorldState → Host → Dev → ℕ → LinkEnd → NodeStep → Option PlainStamped → EventResult
send_taken w h d at to step None = nothing w
send_taken w h d at to step (Some x) = happened_event (lines_at h step.acts ++ Wire w.«next» (stamped_bytes x) ∷ [])
    (record {
      nodes = slice_set w.nodes at step.node;
      links = w.links;
      wire = w.wire ++ record { number = w.«next»; from = record { host = h; dev = d }; to = to; frame = x; handed = false } ∷ [];
      «next» = w.«next» + 1;
      made = w.made;
      version = w.version;
    })

unfoldable pub send_at : WorldState → Host → Dev → ℕ → LinkEnd → Option NodeState → EventResult
send_at w h d at to None = nothing w
send_at w h d at to (Some node) = send_taken w h d at to (take_step node d) (take_step node d).frame

unfoldable pub send_over : WorldState → Host → Dev → ℕ → Option LinkEnd → EventResult
send_over w h d at None = nothing w
send_over w h d at (Some to) = if nat_lt (length w.wire) 4096 then send_at w h d at to (slice_get w.nodes at) else nothing w

unfoldable pub send_place : WorldState → Host → Dev → Option ℕ → EventResult
send_place w h d None = nothing w
send_place w h d (Some at) = send_over w h d at (far_end w.links h d)

unfoldable pub sends : WorldState → Host → Dev → EventResult
sends w h d = send_place w h d (place_of w.nodes h)

-- ---- handings and losses

-- a frame is handed to its receiving end: taken off the wire, or left there
abbrev pub hand_line : Delivery → ℕ → Line
hand_line Taking number = Off number
hand_line Leaving number = Again number

abbrev pub as_handed : FrameOnWire → FrameOnWire
as_handed x = record x { handed = true }

abbrev pub wire_after : Delivery → List FrameOnWire → ℕ → FrameOnWire → List FrameOnWire
wire_after Taking wire place x = remove wire place
wire_after Leaving wire place x = slice_set wire place (as_handed x)

abbrev pub with_wire : WorldState → List FrameOnWire → WorldState
with_wire w wire = record w { wire = wire }

abbrev pub without_frame : WorldState → ℕ → WorldState
without_frame w place = with_wire w (remove w.wire place)

-- the place of a frame number on the wire
abbrev pub wire_place : List FrameOnWire → ℕ → Option ℕ
wire_place wire number = position (λ x. x.number == number) wire

-- the frame arrives at the node at this place
unfoldable pub hand_at : WorldState → Delivery → ℕ → FrameOnWire → ℕ → Option NodeState → EventResult
hand_at w how place x at None = nothing w
hand_at w how place x at (Some node) =
    steps_at (with_wire w (wire_after how w.wire place x)) x.to.host at (hand_line how x.number ∷ []) (stamped_step node x.to.dev x.frame)

unfoldable pub hand_to : WorldState → Delivery → ℕ → FrameOnWire → Option ℕ → EventResult
hand_to w how place x None = nothing w
hand_to w how place x (Some at) = hand_at w how place x at (slice_get w.nodes at)

unfoldable pub hand_frame : WorldState → Delivery → ℕ → Option FrameOnWire → EventResult
hand_frame w how place None = nothing w
hand_frame w how place (Some x) = hand_to w how place x (place_of w.nodes x.to.host)

unfoldable pub hand_place : WorldState → Delivery → Option ℕ → EventResult
hand_place w how None = nothing w
hand_place w how (Some place) = hand_frame w how place (slice_get w.wire place)

unfoldable pub hands : WorldState → Delivery → ℕ → EventResult
hands w how number = hand_place w how (wire_place w.wire number)

unfoldable pub lose_frame : WorldState → ℕ → Option FrameOnWire → EventResult
lose_frame w place None = nothing w
lose_frame w place (Some x) = happened_event (Off x.number ∷ Lost (what_of x.frame.frame) ∷ []) (without_frame w place)

unfoldable pub lose_place : WorldState → Option ℕ → EventResult
lose_place w None = nothing w
lose_place w (Some place) = lose_frame w place (slice_get w.wire place)

unfoldable pub loses : WorldState → ℕ → EventResult
loses w number = lose_place w (wire_place w.wire number)

-- ---- events and runs

abbrev pub acted_event : WorldState → WorldEvent → EventResult
acted_event w (Inject h chunk bound handler) = injects w h chunk bound handler
acted_event w (Send h d) = sends w h d
acted_event w (Deliver number) = hands w Taking number
acted_event w (Repeat number) = hands w Leaving number
acted_event w (Lose number) = loses w number
acted_event w (Tick h) = ticks w h
acted_event w (Raw h d bytes) = raws w h d bytes

-- one event more was made
abbrev pub counted_event : WorldState → WorldState
counted_event w = record w { made = w.made + 1 }

-- one event; one that names nothing gives the line `nothing` and changes nothing
abbrev pub happens : WorldState → WorldEvent → EventResult
happens w e = happened_event (acted_event w e).lines (counted_event (acted_event w e).world)

abbrev pub entry_at : ℕ → Line → Entry
entry_at event line = record { event = event; line = line }

-- what an event adds to the history: its lines with its number
unfoldable pub entries : WorldState → WorldEvent → List Entry
entries w e = map (entry_at (w.made + 1)) (happens w e).lines

-- the network after events
unfoldable pub world_after : List WorldEvent → WorldState → WorldState
world_after [] w = w
world_after (e ∷ es) w = world_after es (happens w e).world

-- the history of events: the lines with the numbers of their events, in order
unfoldable pub history_of : List WorldEvent → WorldState → List Entry
history_of [] w = []
history_of (e ∷ es) w = entries w e ++ history_of es (happens w e).world

-- ---- the beginning

-- the neighbour on a device, where there is one
abbrev pub neighbour_at : Dev → Option LinkEnd → Links
neighbour_at d None = []
neighbour_at d (Some far) = (far.host, d) ∷ []

-- the neighbours of a host on devices 1 to n, in this order
unfoldable pub neighbours_to : Cables → Host → ℕ → Links
neighbours_to links h zero = []
neighbours_to links h (suc n) = neighbours_to links h n ++ neighbour_at (record { 0 = n + 1 }) (peer_of links h (record { 0 = n + 1 }))

-- the services of a node at the beginning: those of the packages that it doesn't lack
abbrev pub opening_services : HostSpec → ServiceState
opening_services spec = opening_standing (present_without spec.missing)

-- how the node of a host begins: its next serial number is 1, and under version 2 so are its moment and the number of each device's
-- first frame
abbrev pub first_moment : Version → ℕ
first_moment One = 0
first_moment Two = 1

abbrev pub config_of : Topology → HostSpec → NodeConfig
config_of t spec = record {
  here = spec.host;
  hosts = map (λ s. s.host) t.hosts;
  neighbours = neighbours_to t.links spec.host 8;
  serial = 1;
  version = t.version;
  boot = first_moment t.version;
  link = first_moment t.version;
}

unfoldable pub opening_node : Topology → HostSpec → NodeState
opening_node t spec = new_node (config_of t spec) (opening_services spec)

-- a network at the beginning
unfoldable pub opening : Topology → WorldState
opening t = record { nodes = map (opening_node t) t.hosts; links = t.links; wire = []; «next» = 1; made = 0; version = t.version }
