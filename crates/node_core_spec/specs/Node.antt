-- What a node does at each event.
use Rattle.std.specs.Prelude.{ℕ, ◌+◌, ◌-◌, Bool, false, ◌==◌, ◌&&◌, not, nat_lt, if◌then◌else◌, List, [], ◌∷◌, ◌++◌, length, map, slice_get}
use Rattle.std.specs.Prelude.{slice_set, Option, Some, None, Result, Ok, Err}
use Rattle.plan_base.specs.declared.ids.Host.{Host}
use Rattle.plan_base.specs.declared.ids.Dev.{Dev}
use Rattle.plan_base.specs.declared.name.Name.{Name}
use Rattle.plan_base.specs.declared.tree.Chunk.{Chunk}
use Rattle.plan_base.specs.declared.tree.Packet.{Packet}
use Rattle.packet_frame.specs.declared.frame.PlainFrame.{PlainFrame}
use Rattle.packet_frame.specs.declared.frame.PlainStamped.{PlainStamped}
use Rattle.plan_base.specs.declared.stamp.Stamp.{Stamp}
use Rattle.plan_base.specs.declared.stamp.Version.{Version}
use Rattle.plan_base.specs.declared.stamp.Version.TheVariants.{One, Two}
use Rattle.replay_window.specs.declared.window.Took.{Took}
use Rattle.replay_window.specs.declared.window.Took.TheVariants.{Fresh}
use Rattle.replay_window.specs.Seen.{Seen, took, seen_with}
use Rattle.packet_frame.specs.declared.fault.FrameFault.{FrameFault}
use Rattle.packet_frame.specs.Decoding.{read_by}
use Rattle.service_api.specs.declared.advert.Advert.{Advert}
use Rattle.service_api.specs.declared.router.Hop.{Hop}
use Rattle.service_api.specs.declared.router.Hop.TheVariants.{To, NoService, NoRoute}
use Rattle.service_api.specs.Routes.{hop, default_route}
use Rattle.service_api.specs.Services.{ServiceState, begun_now, unexpired_services}
use Rattle.dv_routing.specs.Routing.{all_routes, own_advert}
use Rattle.network_config.specs.declared.event.Event.{Event}
use Rattle.network_config.specs.declared.event.Event.TheVariants as event
use Rattle.plan_meaning.specs.declared.sent.Sent.{Sent}
use Rattle.plan_base.specs.declared.ids.Family.{Family}
use Rattle.plan_meaning.specs.declared.outcome.Visit.{Visit}
use Rattle.plan_eval_settle.specs.declared.settling.Settled.{Settled}
use Rattle.node_core_spec.specs.declared.acts.Act.{Act}
use Rattle.node_core_spec.specs.declared.acts.Act.TheVariants.{Injected, Arrived, Asked, Noted, Ended, Handled, Queued, Dropped, Bad}
use Rattle.node_core_spec.specs.declared.acts.Act.TheVariants.{Misplaced, AdvertQueued, AdvertDropped, AdvertSpent, Stale, Heard, Ticked}
use Rattle.node_core_spec.specs.declared.acts.Act.TheVariants.{Taken, SerialsSpent}
use Rattle.node_core_spec.specs.declared.acts.Reason.TheVariants as reason
use Rattle.node_core_spec.specs.declared.acts.Sending.{Sending}
use Rattle.node_core_spec.specs.declared.acts.TxQueue.{TxQueue}
use Rattle.packet_frame.specs.Spelled.{what_of, numbered_frame}
use Rattle.node_core_spec.specs.State.{Queues, NodeState, routing_of, is_host, leads_to}
use Rattle.node_core_spec.specs.Visits.{around, visit_at, settled_at, services_after}

-- what a step gives: the acts in order, the frame that was taken, and the node afterwards
pub record NodeStep : Type 0 where
  pub acts : List Act
  pub frame : Option PlainStamped
  pub node : NodeState

abbrev pub stepped_node : List Act → Option PlainStamped → NodeState → NodeStep
stepped_node acts frame node = record { acts = acts; frame = frame; node = node }

-- ---- frames into queues

-- whether a device has given all its numbers; a frame without stamp needs none
abbrev pub is_spent : TxQueue → Option Stamp → Bool
is_spent lane None = false
is_spent lane (Some s) = lane.number == 18446744073709551615

abbrev pub lane_room : TxQueue → Bool
lane_room lane = nat_lt (length lane.frames) 64

abbrev pub queue_room : Option TxQueue → PlainStamped → Bool
queue_room None x = false
queue_room (Some lane) x = lane_room lane && not (is_spent lane x.stamp)

-- whether a device has room and a number for one more frame
unfoldable pub has_room : Queues → Dev → PlainStamped → Bool
has_room queues d x = queue_room (slice_get queues d.0) x

abbrev pub number_after : ℕ → Option Stamp → ℕ
number_after n None = n
number_after n (Some s) = n + 1

-- a frame more on a device: it gets the next number
abbrev pub lane_with : TxQueue → PlainStamped → TxQueue
lane_with lane x = record { frames = lane.frames ++ numbered_frame lane.number x ∷ []; number = number_after lane.number x.stamp }

abbrev pub queue_push : Queues → Dev → PlainStamped → Option TxQueue → Queues
queue_push queues d x None = queues
queue_push queues d x (Some lane) = slice_set queues d.0 (lane_with lane x)

-- the act of a frame that isn't queued
abbrev pub drop_act : Option TxQueue → Sending → Act
drop_act None s = s.dropped
drop_act (Some lane) s = if lane_room lane then s.spent else s.dropped

-- the act of a frame that is to be queued
unfoldable pub send_act : Queues → Sending → Act
send_act queues s = if has_room queues s.dev s.frame then s.queued else drop_act (slice_get queues s.dev.0) s

-- the queues after it
unfoldable pub send_queues : Queues → Sending → Queues
send_queues queues s = if has_room queues s.dev s.frame then queue_push queues s.dev s.frame (slice_get queues s.dev.0) else queues

-- the acts of frames that are queued one after the other
unfoldable pub sends_acts : Queues → List Sending → List Act
sends_acts queues [] = []
sends_acts queues (s ∷ ss) = send_act queues s ∷ sends_acts (send_queues queues s) ss

-- the queues after them
unfoldable pub sends_queues : Queues → List Sending → Queues
sends_queues queues [] = queues
sends_queues queues (s ∷ ss) = sends_queues (send_queues queues s) ss

abbrev pub with_queues : NodeState → Queues → NodeState
with_queues node queues = record node { queues = queues }

abbrev pub with_services : NodeState → ServiceState → NodeState
with_services node services = record node { services = services }

-- ---- packets

-- the packet as it goes on, with 1 paid for the hop
abbrev pub hop_packet : Packet → Packet
hop_packet p = record p { bound = p.bound - 1 }

-- what a node's frames bear: under version 2 its beginning, and a number that each gets when it is queued
abbrev pub mark_of : Version → ℕ → Option Stamp
mark_of One boot = None
mark_of Two boot = Some (record { boot = boot; link = 0 })

abbrev pub mark : NodeState → Option Stamp
mark node = mark_of node.version node.boot

-- a packet to be queued: with the bound less one, or dropped with the bound that was paid
abbrev pub packet_sending : Option Stamp → Sent → Sending
packet_sending m s = record {
  dev = s.dev;
  frame = record { stamp = m; frame = PlainFrame.Packet (hop_packet s.packet) };
  queued = Queued s.dev s.packet.family (s.packet.bound - 1);
  dropped = Dropped reason.QueueFull s.packet.family s.packet.bound;
  spent = Dropped reason.LinkSpent s.packet.family s.packet.bound;
}

-- the packets that a visit sends
unfoldable pub visit_sends : Option Stamp → Visit → List Sending
visit_sends m v = map (packet_sending m) v.outbox

-- the act of a handler that is called with that bound, if one is
abbrev pub handled_acts : Family → Option Name → ℕ → List Act
handled_acts f None bound = []
handled_acts f (Some n) bound = Handled f n bound ∷ []

-- the acts of a visit that left this and was settled: its notes, its end, the handler that is called, and its sends
unfoldable pub visit_acts : Option Stamp → Queues → Packet → ℕ → Settled → List Act
visit_acts m queues p left s =
    map Noted s.visit.notes
    ++ (Ended p.family s.visit.outcome s.visit.evals s.visit.left ∷ (handled_acts p.family s.handled left ++ sends_acts queues (visit_sends m s.visit)))

-- a settled visit at a node, after these acts
unfoldable pub visit_step : List Act → NodeState → Packet → NodeStep
visit_step acts node p = stepped_node (acts ++ visit_acts (mark node) node.queues p (visit_at node p).left (settled_at node p)) None
    (with_services (with_queues node (sends_queues node.queues (visit_sends (mark node) (settled_at node p).visit)))
    (services_after (around node p) (begun_now node.services) p))

-- ---- injections

-- the packet of an injection with its handler, if it has one
abbrev pub injected_packet : NodeState → Chunk → ℕ → Option Name → Packet
injected_packet node chunk bound handler =
    record {
      family = record { source = node.here; serial = node.serial };
      dest = node.here;
      bound = bound;
      route = default_route;
      chunk = chunk;
      handler = handler;
    }

abbrev pub next_serial : NodeState → NodeState
next_serial node = record node { serial = node.serial + 1 }

-- an injection after these acts, which is refused where the last serial number would be given
unfoldable pub inject_step : List Act → NodeState → Chunk → ℕ → Option Name → NodeStep
inject_step acts node chunk bound handler = if node.serial == 18446744073709551615 then stepped_node (acts ++ SerialsSpent ∷ []) None node
    else visit_step (acts ++ Injected (record { source = node.here; serial = node.serial }) bound ∷
    []) (next_serial node) (injected_packet node chunk bound handler)

-- ---- arrivals

-- nothing but two acts
abbrev pub only_acts : Act → Act → NodeState → NodeStep
only_acts first act node = stepped_node (first ∷ act ∷ []) None node

-- a packet goes on over a device
abbrev pub onward : NodeState → Dev → Sending → NodeStep
onward node d s = stepped_node (Arrived d ∷ send_act node.queues s ∷ []) None (with_queues node (send_queues node.queues s))

-- a packet that goes on by a hop
unfoldable pub forward_by : NodeState → Dev → Packet → Hop → NodeStep
forward_by node d p (To host over) = onward node d (packet_sending (mark node) (record { dev = over; packet = p }))
forward_by node d p NoService = only_acts (Arrived d) (Dropped reason.NoService p.family p.bound) node
forward_by node d p NoRoute = only_acts (Arrived d) (Dropped reason.NoRoute p.family p.bound) node

-- a packet for another host goes on by its routing function
unfoldable pub forward_step : NodeState → Dev → Packet → NodeStep
forward_step node d p = if p.bound == 0 then only_acts (Arrived d) (Dropped reason.NoBound p.family 0) node
    else forward_by node d p (hop (all_routes (routing_of node)) p.route node.here p.dest)

-- a packet for this host is visited
unfoldable pub packet_step : NodeState → Dev → Packet → NodeStep
packet_step node d p = if is_host p.dest node.here then visit_step (Arrived d ∷ []) node p else forward_step node d p

abbrev pub hearing : NodeState → Dev → Advert → NodeState
hearing node d a = record node { heard = node.heard ++ (d, a) ∷ [] }

-- an advert is heard where it comes from the neighbour on its device
unfoldable pub advert_step : NodeState → Dev → Advert → NodeStep
advert_step node d a = if leads_to node.neighbours d a.host then only_acts (Arrived d) (Heard d) (hearing node d a) else only_acts (Arrived d) Misplaced node

-- a frame arrives
abbrev pub frame_step : NodeState → Dev → PlainFrame → NodeStep
frame_step node d (PlainFrame.Packet p) = packet_step node d p
frame_step node d (PlainFrame.Advert a) = advert_step node d a
frame_step node d (PlainFrame.Ask bound chunk) = only_acts (Arrived d) Misplaced node

-- ---- stamps

abbrev pub took_by : Option Seen → Stamp → Took
took_by None s = Fresh
took_by (Some seen) s = took seen s

-- what a device takes a frame as; one without stamp is always fresh
unfoldable pub takes_as : List Seen → Dev → Option Stamp → Took
takes_as seen d None = Fresh
takes_as seen d (Some s) = took_by (slice_get seen d.0) s

abbrev pub seen_at : List Seen → Dev → Stamp → Option Seen → List Seen
seen_at seen d s None = seen
seen_at seen d s (Some old) = slice_set seen d.0 (seen_with old s)

-- a fresh stamp is taken on a device
unfoldable pub seen_then : List Seen → Dev → Option Stamp → List Seen
seen_then seen d None = seen
seen_then seen d (Some s) = seen_at seen d s (slice_get seen d.0)

abbrev pub with_seen : List Seen → NodeState → NodeState
with_seen seen node = record node { seen = seen }

-- a step at which a fresh stamp is taken
abbrev pub noting : NodeState → Dev → Option Stamp → NodeStep → NodeStep
noting node d stamp step = stepped_node step.acts step.frame (with_seen (seen_then node.seen d stamp) step.node)

abbrev pub stamped_as : NodeState → Dev → PlainStamped → Took → NodeStep
stamped_as node d x Fresh = noting node d x.stamp (frame_step node d x.frame)
stamped_as node d x t = only_acts (Arrived d) (Stale t (what_of x.frame)) node

-- a frame arrives: it is stale where its stamp isn't fresh on its device
unfoldable pub stamped_step : NodeState → Dev → PlainStamped → NodeStep
stamped_step node d x = stamped_as node d x (takes_as node.seen d x.stamp)

abbrev pub arrived_read : NodeState → Dev → Result PlainStamped FrameFault → NodeStep
arrived_read node d (Ok x) = stamped_step node d x
arrived_read node d (Err e) = only_acts (Arrived d) (Bad e) node

-- bytes arrive
unfoldable pub arrive_step : NodeState → Dev → List ℕ → NodeStep
arrive_step node d bytes = arrived_read node d (read_by node.version bytes)

abbrev pub asked_plain : NodeState → PlainFrame → NodeStep
asked_plain node (PlainFrame.Ask bound chunk) = inject_step (Asked ∷ []) node chunk bound None
asked_plain node x = only_acts Asked Misplaced node

abbrev pub asked_read : NodeState → Result PlainStamped FrameFault → NodeStep
asked_read node (Ok x) = asked_plain node x.frame
asked_read node (Err e) = only_acts Asked (Bad e) node

-- bytes arrive from the owner: an ask is an injection
unfoldable pub control_step : NodeState → List ℕ → NodeStep
control_step node bytes = asked_read node (read_by node.version bytes)

-- ---- ticks

-- time stands still at its last value
abbrev pub next_tick : ℕ → ℕ
next_tick now = if now == 18446744073709551615 then now else now + 1

-- the node at its next tick: rows that have expired go
abbrev pub ticking : NodeState → NodeState
ticking node = record node { services = unexpired_services (next_tick node.now) node.services; now = next_tick node.now }

-- an advert to be queued for a neighbour
abbrev pub advert_sending : Option Stamp → Advert → Host × Dev → Sending
advert_sending m a link = record {
  dev = link.1;
  frame = record { stamp = m; frame = PlainFrame.Advert a };
  queued = AdvertQueued link.1;
  dropped = AdvertDropped link.1;
  spent = AdvertSpent link.1;
}

-- the adverts of a tick, one for each neighbour
unfoldable pub tick_sends : NodeState → List Sending
tick_sends node = map (advert_sending (mark node) (own_advert (routing_of node))) node.neighbours

unfoldable pub tick_step : NodeState → NodeStep
tick_step node =
    stepped_node (Ticked (next_tick node.now) ∷ sends_acts node.queues (tick_sends node)) None
    (with_queues (ticking node) (sends_queues node.queues (tick_sends node)))

-- ---- takes

abbrev pub take_first : NodeState → Dev → ℕ → List PlainStamped → NodeStep
take_first node d n [] = stepped_node [] None node
take_first node d n (x ∷ queue) =
    stepped_node (Taken d (what_of x.frame) ∷ []) (Some x)
    (with_queues node (slice_set node.queues d.0 (record { frames = queue; number = n })))

abbrev pub take_from : NodeState → Dev → Option TxQueue → NodeStep
take_from node d None = stepped_node [] None node
take_from node d (Some lane) = take_first node d lane.number lane.frames

-- the first frame of a device is taken; nothing where there is none
unfoldable pub take_step : NodeState → Dev → NodeStep
take_step node d = take_from node d (slice_get node.queues d.0)

-- ---- one step of a node
abbrev pub node_step : NodeState → Event → NodeStep
node_step node (event.Inject chunk bound handler) = inject_step [] node chunk bound handler
node_step node (event.Frame d bytes) = arrive_step node d bytes
node_step node (event.Control bytes) = control_step node bytes
node_step node event.Tick = tick_step node
node_step node (event.Take d) = take_step node d
