-- Each event that brings no packet and no advert from outside is some moves, and keeps what holds of routes.
use Rattle.std.proofs.Common.{◌≡◌, ℕ, Bool, true, false, cond, Option, Some, None, Result, Ok, Err, List, [], ◌∷◌, length, refl, sym, ap, subst, ◌∙◌}
use Rattle.std.specs.Prelude.{map, slice_get, slice_set, nat_lt, All, Contains}
use Rattle.std.proofs.lemmas.List.{map-set, map_push}
use Rattle.std.proofs.lemmas.List.Elements.{All-nil, All-cons, All-append, All-map, All-push, All-set}
use Rattle.plan_base.specs.declared.ids.Host.{Host}
use Rattle.plan_base.specs.declared.ids.Dev.{Dev}
use Rattle.plan_base.specs.declared.stamp.Version.{Version}
use Rattle.packet_frame.specs.declared.frame.PlainFrame.{PlainFrame}
use Rattle.packet_frame.specs.declared.frame.PlainStamped.{PlainStamped}
use Rattle.packet_frame.specs.declared.fault.FrameFault.{FrameFault}
use Rattle.packet_frame.specs.Decoding.{read_by}
use Rattle.packet_frame.specs.Stamped.{stamped_bytes}
use Rattle.network_config.specs.declared.event.WorldEvent.{WorldEvent}
use Rattle.network_config.specs.declared.event.WorldEvent.TheVariants.{Inject, Send, Deliver, Repeat, Lose, Tick, Raw}
use Rattle.packet_frame.specs.Spelled.{what_of}
use Rattle.dv_routing.specs.Routing.{Routing, all_routes, is_among}
use Rattle.dv_routing.specs.Laws.{HostsHold}
use Rattle.service_api.specs.Routes.{hop}
use Rattle.net_world_spec.specs.Network.{Wiring, RouteFrame, Node, Network, with_node as with_cut, with_queue, Sent, Leaves, Goes, Stays, Then}
use Rattle.net_world_spec.specs.Truths.{RoutesHold as CutHolds}
use Rattle.net_world_spec.proofs.Keep.{goes_keep}
use Rattle.net_world_spec.proofs.Lookups.{all_get, all_remove}
use Rattle.node_core_spec.specs.declared.acts.Act.{Act}
use Rattle.node_core_spec.specs.declared.acts.Act.TheVariants.{Taken}
use Rattle.node_core_spec.specs.declared.acts.TxQueue.{TxQueue}
use Rattle.node_core_spec.specs.State.{Links, NodeState, routing_of}
use Rattle.node_core_spec.specs.Node.{NodeStep, inject_step, stamped_step, arrive_step, tick_step, take_first, take_from, take_step, with_queues}
use Rattle.node_core_spec.specs.Fits.{QueuesKeep}
use Rattle.node_core_spec.proofs.Keeping.{took}
use Rattle.node_core_spec.proofs.Staying.{Stays as NodeStays, inject_stays, stamped_stays, arrive_stays, tick_stays}
use Rattle.net_world_spec.specs.declared.lines.Line.{Line}
use Rattle.net_world_spec.specs.declared.lines.Line.TheVariants.{At, Forged, Wire, Off, Lost, Nothing}
use Rattle.net_world_spec.specs.declared.lines.LinkEnd.{LinkEnd}
use Rattle.net_world_spec.specs.declared.lines.FrameOnWire.{FrameOnWire}
use Rattle.net_world_spec.specs.declared.lines.Delivery.{Delivery}
use Rattle.net_world_spec.specs.declared.lines.Delivery.TheVariants.{Taking, Leaving}
use Rattle.net_world_spec.specs.World.{Cables, WorldState, EventResult, nothing, lines_at, step_at, step_place, steps, none_before, forged_frame, forged_lines, forged_at, place_of, far_end}
use Rattle.net_world_spec.specs.World.{send_taken, send_at, send_over, send_place, sends, wire_place, hand_line, as_handed, wire_after, hand_at, hand_to, hand_frame, hand_place, hands, lose_frame}
use Rattle.net_world_spec.specs.World.{lose_place, loses, acted_event, happens}
use Rattle.net_world_spec.specs.Wires.{WireLeads}
use Rattle.net_world_spec.specs.Roads.{routing_in, CarriesNone, BringsNone}
use Rattle.net_world_spec.specs.Routes.{FrameHasWay, IsRoutedAct, IsRouted}
use Rattle.net_world_spec.proofs.Cut.{cut_stamped, cut_lane, cut_node, cut_wired, cut, end_of, wiring, get_map, set_same, map_remove, contains_get, goes_over, place_is}
use Rattle.net_world_spec.proofs.Steps.{GoesDefault, StepKeeps, inject_keeps, tick_keeps, bytes_keep, HopsOn, stamped_keeps}
use Rattle.net_world_spec.proofs.Holding.{WorldHolds, wire_way}

-- what an event keeps
pub record EventKeeps (w : WorldState) (h : EventResult) : Type 0 where
  pub links : h.world.links ≡ w.links
  pub goes : Goes (wiring w.links) (cut w) (cut h.world)
  pub hosts : All (λ node. HostsHold (routing_of node)) h.world.nodes
  pub queues : All (λ node. QueuesKeep GoesDefault node.queues) h.world.nodes
  pub wire : All (λ x. GoesDefault x.frame) h.world.wire
  pub leads : WireLeads w.links h.world.wire
  pub version : h.world.version ≡ w.version
  pub versions : All (λ node. node.version ≡ w.version) h.world.nodes
  pub lines : All IsRouted h.lines

nothing_keeps : (w : WorldState) → WorldHolds w → EventKeeps w (nothing w)
nothing_keeps w h = record {
  links = refl;
  goes = Stays (cut w);
  hosts = h.hosts;
  queues = h.queues;
  wire = h.wire;
  leads = h.leads;
  version = refl;
  versions = h.versions;
  lines = All-cons IsRouted Nothing [] tt (All-nil IsRouted);
}

-- ---- cuts

net_is : (ns ms : List Node) (xs ys : List ((Host × Dev) × RouteFrame)) → ns ≡ ms → xs ≡ ys → ◌≡◌ {A = Network} (record { nodes = ns; wire = xs }) (record { nodes = ms; wire = ys })
net_is ns ms xs ys e f =
    ap (λ zs. let n : Network = record { nodes = zs; wire = xs } in n) e ∙ ap (λ zs. let n : Network = record { nodes = ms; wire = zs } in n) f

-- ---- steps of nodes

hosts_stay : (old new : NodeState) → NodeStays old new → HostsHold (routing_of old) → HostsHold (routing_of new)
hosts_stay old new s h = record {
  here = ap (λ hs. is_among hs new.here) s.hosts ∙ (ap (is_among old.hosts) s.here ∙ h.here);
  near = λ link among. ap (λ hs. is_among hs link.0) s.hosts ∙ h.near link (let P : Links → Type 0 = λ links. Contains links link in subst P s.neighbours among);
}

acts_routed : (h : Host) (acts : List Act) → All IsRoutedAct acts → All IsRouted (lines_at h acts)
unfolding lines_at
acts_routed h acts all = All-map IsRouted (At h) acts all

-- a step of every node of a version
record Steps (far : Wiring) (v : Version) (step : NodeState → NodeStep) : Type 0 where
  keeps : (node : NodeState) → node.version ≡ v → QueuesKeep GoesDefault node.queues → StepKeeps far (λ w. Unit {0}) node (step node)
  stays : (node : NodeState) → NodeStays node (step node).node

step_at_keeps : (w : WorldState) (h : Host) (before : NodeState → List Line) (step : NodeState → NodeStep) (at : ℕ) (o : Option NodeState) → ((node : NodeState) → All IsRouted (before node))
    → Steps (wiring w.links) w.version step → place_of w.nodes h ≡ Some at → slice_get w.nodes at ≡ o → WorldHolds w → EventKeeps w (step_at w h before step at o)
unfolding step_at
step_at_keeps w h before step at None quiet s place get k = nothing_keeps w k
step_at_keeps w h before step at (Some node) quiet s place get k =
    let p = place_is w h at node place get in
    let version = all_get (λ n. n.version ≡ w.version) w.nodes at node k.versions get in
    let one = s.keeps node version (all_get (λ n. QueuesKeep GoesDefault n.queues) w.nodes at node k.queues get) in
    let stays = s.stays node in
    record {
      links = refl;
      goes = subst (Goes (wiring w.links) (cut w)) (net_is _ _ (cut w).wire (cut w).wire (sym (map-set cut_node w.nodes at (step node).node)) refl) (one.goes (cut w) at tt p.is_at);
      hosts = All-set (λ n. HostsHold (routing_of n)) w.nodes at (step node).node
          (hosts_stay node (step node).node stays (all_get (λ n. HostsHold (routing_of n)) w.nodes at node k.hosts get)) k.hosts;
      queues = All-set (λ n. QueuesKeep GoesDefault n.queues) w.nodes at (step node).node one.queues k.queues;
      wire = k.wire;
      leads = k.leads;
      version = refl;
      versions = All-set (λ n. n.version ≡ w.version) w.nodes at (step node).node (stays.version ∙ version) k.versions;
      lines = All-append IsRouted (before node) (lines_at h (step node).acts) (quiet node) (acts_routed h (step node).acts one.acts);
    }

step_place_keeps : (w : WorldState) (h : Host) (before : NodeState → List Line) (step : NodeState → NodeStep) (o : Option ℕ) → ((node : NodeState) → All IsRouted (before node))
    → Steps (wiring w.links) w.version step → place_of w.nodes h ≡ o → WorldHolds w → EventKeeps w (step_place w h before step o)
unfolding step_place
step_place_keeps w h before step None quiet s place k = nothing_keeps w k
step_place_keeps w h before step (Some at) quiet s place k = step_at_keeps w h before step at (slice_get w.nodes at) quiet s place refl k

steps_keep : (w : WorldState) (h : Host) (before : NodeState → List Line) (step : NodeState → NodeStep) → ((node : NodeState) → All IsRouted (before node))
    → Steps (wiring w.links) w.version step → WorldHolds w → EventKeeps w (steps w h before step)
unfolding steps
steps_keep w h before step quiet s k = step_place_keeps w h before step (place_of w.nodes h) quiet s refl k

frame_routed : (h : Host) (x : PlainFrame) → All IsRouted (forged_frame h x)
frame_routed h (PlainFrame.Packet p) = All-cons IsRouted (Forged h p.family p.bound) [] tt (All-nil IsRouted)
frame_routed h (PlainFrame.Advert a) = All-nil IsRouted
frame_routed h (PlainFrame.Ask bound chunk) = All-nil IsRouted

forged_routed : (h : Host) (r : Result PlainStamped FrameFault) → All IsRouted (forged_lines h r)
forged_routed h (Ok x) = frame_routed h x.frame
forged_routed h (Err e) = All-nil IsRouted

-- ---- sends

-- the first frame of a queue goes onto the wire
send_first_keeps : (w : WorldState) (h : Host) (d : Dev) (at : ℕ) (to : LinkEnd) (node : NodeState) (n : ℕ) (frames : List PlainStamped) → far_end w.links h d ≡ Some to → place_of w.nodes h ≡ Some at
    → slice_get w.nodes at ≡ Some node → slice_get node.queues d.0 ≡ Some (record { frames = frames; number = n }) → WorldHolds w
    → EventKeeps w (send_taken w h d at to (take_first node d n frames) (take_first node d n frames).frame)
unfolding send_taken
send_first_keeps w h d at to node n [] leads place get e k = nothing_keeps w k
send_first_keeps w h d at to node n (x ∷ queue) leads place get e k =
    let p = place_is w h at node place get in
    let far = wiring w.links in
    let old : TxQueue = record { frames = x ∷ queue; number = n } in
    let later : TxQueue = record { frames = queue; number = n } in
    let new = with_queues node (slice_set node.queues d.0 later) in
    let wired : FrameOnWire = record { number = w.«next»; from = record { host = h; dev = d }; to = to; frame = x; handed = false } in
    let there : far node.here d ≡ Some (to.host, to.dev) = ap (λ n. far n d) p.here ∙ ap end_of leads in
    let move = Sent (cut w) at (cut_node node) d (cut_stamped x) (map cut_stamped queue) (to.host, to.dev) p.is_at (get_map cut_lane node.queues d.0 old e) there in
    let cut_new : ◌≡◌ {A = Node} (with_queue (cut_node node) d (map cut_stamped queue)) (cut_node new) =
    ap (λ qs. let n : Node = record { routing = routing_of node; queues = qs } in n) (sym (map-set cut_lane node.queues d.0 later)) in
    let nodes = ap (slice_set (cut w).nodes at) cut_new ∙ sym (map-set cut_node w.nodes at new) in
    let t = took GoesDefault node.queues d.0 n x queue e (all_get (λ n. QueuesKeep GoesDefault n.queues) w.nodes at node k.queues get) in
    let act = Taken d (what_of x.frame) in
    let line = Wire w.«next» (stamped_bytes x) in
    record {
      links = refl;
      goes = Then (cut w) _ _ move (subst (Goes far _) (net_is _ _ _ _ nodes (sym (map_push cut_wired w.wire wired))) (Stays _));
      hosts = All-set (λ n. HostsHold (routing_of n)) w.nodes at new (let old = all_get (λ n. HostsHold (routing_of n)) w.nodes at node k.hosts get in record { here = old.here; near = old.near }) k.hosts;
      queues = All-set (λ n. QueuesKeep GoesDefault n.queues) w.nodes at new t.rest k.queues;
      wire = All-push (λ y. GoesDefault y.frame) w.wire wired k.wire t.frame;
      leads = All-push (λ (y : FrameOnWire). far_end w.links y.from.host y.from.dev ≡ Some y.to) w.wire wired k.leads leads;
      version = refl;
      versions = All-set (λ n. n.version ≡ w.version) w.nodes at new (all_get (λ n. n.version ≡ w.version) w.nodes at node k.versions get) k.versions;
      lines = All-append IsRouted (lines_at h (act ∷ [])) (line ∷ []) (acts_routed h (act ∷ []) (All-cons IsRoutedAct act [] tt (All-nil IsRoutedAct))) (All-cons IsRouted line [] tt (All-nil IsRouted));
    }

send_from_keeps : (w : WorldState) (h : Host) (d : Dev) (at : ℕ) (to : LinkEnd) (node : NodeState) (o : Option TxQueue) → far_end w.links h d ≡ Some to → place_of w.nodes h ≡ Some at
    → slice_get w.nodes at ≡ Some node → slice_get node.queues d.0 ≡ o → WorldHolds w → EventKeeps w (send_taken w h d at to (take_from node d o) (take_from node d o).frame)
unfolding send_taken
send_from_keeps w h d at to node None leads place get e k = nothing_keeps w k
send_from_keeps w h d at to node (Some lane) leads place get e k = send_first_keeps w h d at to node lane.number lane.frames leads place get e k

send_at_keeps : (w : WorldState) (h : Host) (d : Dev) (at : ℕ) (to : LinkEnd) (o : Option NodeState) → far_end w.links h d ≡ Some to → place_of w.nodes h ≡ Some at → slice_get w.nodes at ≡ o
    → WorldHolds w → EventKeeps w (send_at w h d at to o)
unfolding send_at take_step
send_at_keeps w h d at to None leads place get k = nothing_keeps w k
send_at_keeps w h d at to (Some node) leads place get k = send_from_keeps w h d at to node (slice_get node.queues d.0) leads place get refl k

room_cases : (t : Bool) (w : WorldState) (a : EventResult) → EventKeeps w a → WorldHolds w → EventKeeps w (cond t a (nothing w))
room_cases true w a x k = x
room_cases false w a x k = nothing_keeps w k

send_over_keeps : (w : WorldState) (h : Host) (d : Dev) (at : ℕ) (o : Option LinkEnd) → far_end w.links h d ≡ o → place_of w.nodes h ≡ Some at → WorldHolds w → EventKeeps w (send_over w h d at o)
unfolding send_over
send_over_keeps w h d at None leads place k = nothing_keeps w k
send_over_keeps w h d at (Some to) leads place k = room_cases (nat_lt (length w.wire) 4096) w _ (send_at_keeps w h d at to (slice_get w.nodes at) leads place refl k) k

send_place_keeps : (w : WorldState) (h : Host) (d : Dev) (o : Option ℕ) → place_of w.nodes h ≡ o → WorldHolds w → EventKeeps w (send_place w h d o)
unfolding send_place
send_place_keeps w h d None place k = nothing_keeps w k
send_place_keeps w h d (Some at) place k = send_over_keeps w h d at (far_end w.links h d) refl place k

sends_keep : (w : WorldState) (h : Host) (d : Dev) → WorldHolds w → EventKeeps w (sends w h d)
unfolding sends
sends_keep w h d k = send_place_keeps w h d (place_of w.nodes h) refl k

-- ---- deliveries and losses

-- a frame that has a way at a host has its hop at the host's node
hops_on : (w : WorldState) (far : Wiring) (node : NodeState) (m : Host) (x : PlainFrame) → node.here ≡ m → routing_in w.nodes m ≡ Some (routing_of node) → FrameHasWay w.nodes m x → HopsOn far node x
hops_on w far node m (PlainFrame.Packet p) here known way =
    let is : way.routing ≡ routing_of node = some_is (sym way.here ∙ known) in
    (way.row.«next», way.row.dev, ap (λ n. hop (all_routes (routing_of node)) p.route n p.dest) here ∙ (ap (λ r. hop (all_routes r) p.route m p.dest) (sym is) ∙ way.hops))
  where
    some_is : ◌≡◌ {A = Option Routing} (Some way.routing) (Some (routing_of node)) → way.routing ≡ routing_of node
    some_is h = cc
hops_on w far node m (PlainFrame.Advert a) here known way = tt
hops_on w far node m (PlainFrame.Ask bound chunk) here known way = tt

-- a frame that was handed leaves the wire, or nothing changes there
wire_goes : (far : Wiring) (nodes : List Node) (how : Delivery) (wire : List FrameOnWire) (place : ℕ) (x : FrameOnWire) → slice_get wire place ≡ Some x
    → Goes far (record { nodes = nodes; wire = map cut_wired wire }) (record { nodes = nodes; wire = map cut_wired (wire_after how wire place x) })
wire_goes far nodes Taking wire place x e =
    let w : Network = record { nodes = nodes; wire = map cut_wired wire } in
    Then w _ _ (Leaves w place) (subst (Goes far _) (net_is _ _ _ _ refl (sym (map_remove cut_wired wire place))) (Stays _))
wire_goes far nodes Leaving wire place x e =
    let w : Network = record { nodes = nodes; wire = map cut_wired wire } in
    let same = map-set cut_wired wire place (as_handed x) ∙ set_same (map cut_wired wire) place (cut_wired x) (get_map cut_wired wire place x e) in
    subst (Goes far w) (net_is nodes nodes (map cut_wired wire) _ refl (sym same)) (Stays w)

all_after : (P : FrameOnWire → Type 0) (how : Delivery) (wire : List FrameOnWire) (place : ℕ) (x : FrameOnWire) → slice_get wire place ≡ Some x → (P x → P (as_handed x)) → All P wire → All P (wire_after how wire place x)
all_after P Taking wire place x e h all = all_remove P wire place all
all_after P Leaving wire place x e h all = All-set P wire place (as_handed x) (h (all_get P wire place x all e)) all

hand_routed : (how : Delivery) (number : ℕ) → IsRouted (hand_line how number)
hand_routed Taking number = tt
hand_routed Leaving number = tt

hand_at_keeps : (w : WorldState) (how : Delivery) (place : ℕ) (x : FrameOnWire) (at : ℕ) (o : Option NodeState) → slice_get w.wire place ≡ Some x → place_of w.nodes x.to.host ≡ Some at → slice_get w.nodes at ≡ o
    → WorldHolds w → EventKeeps w (hand_at w how place x at o)
unfolding hand_at
hand_at_keeps w how place x at None on at_host get k = nothing_keeps w k
hand_at_keeps w how place x at (Some node) on at_host get k =
    let far = wiring w.links in
    let p = place_is w x.to.host at node at_host get in
    let step = stamped_step node x.to.dev x.frame in
    let way = hops_on w far node x.to.host x.frame.frame p.here p.known (wire_way w k x (contains_get w.wire place x on)) in
    let one = stamped_keeps far node x.to.dev x.frame way (all_get (λ y. GoesDefault y.frame) w.wire place x k.wire on) (all_get (λ n. QueuesKeep GoesDefault n.queues) w.nodes at node k.queues get) in
    let P : Host → Type 0 = λ m. Contains (cut w).wire ((m, x.to.dev), cut_stamped x.frame) in
    let here : P node.here = subst P (sym p.here) (contains_get (cut w).wire place (cut_wired x) (get_map cut_wired w.wire place x on)) in
    let heard = with_cut (cut w) at (cut_node step.node) in
    let nodes = sym (map-set cut_node w.nodes at step.node) in
    let IsLeading : FrameOnWire → Type 0 = λ y. far_end w.links y.from.host y.from.dev ≡ Some y.to in
    record {
      links = refl;
      goes = goes_over far (cut w) heard _ (one.goes (cut w) at here p.is_at) (subst (Goes far heard) (net_is _ _ _ _ nodes refl) (wire_goes far heard.nodes how w.wire place x on));
      hosts = All-set (λ n. HostsHold (routing_of n)) w.nodes at step.node
          (hosts_stay node step.node (stamped_stays node x.to.dev x.frame).node (all_get (λ n. HostsHold (routing_of n)) w.nodes at node k.hosts get)) k.hosts;
      queues = All-set (λ n. QueuesKeep GoesDefault n.queues) w.nodes at step.node one.queues k.queues;
      wire = all_after (λ y. GoesDefault y.frame) how w.wire place x on (λ h. h) k.wire;
      leads = all_after IsLeading how w.wire place x on (λ h. h) k.leads;
      version = refl;
      versions = All-set (λ n. n.version ≡ w.version) w.nodes at step.node
          ((stamped_stays node x.to.dev x.frame).node.version ∙ all_get (λ n. n.version ≡ w.version) w.nodes at node k.versions get) k.versions;
      lines = All-cons IsRouted (hand_line how x.number) (lines_at x.to.host step.acts) (hand_routed how x.number) (acts_routed x.to.host step.acts one.acts);
    }

hand_to_keeps : (w : WorldState) (how : Delivery) (place : ℕ) (x : FrameOnWire) (o : Option ℕ) → slice_get w.wire place ≡ Some x → place_of w.nodes x.to.host ≡ o → WorldHolds w → EventKeeps w (hand_to w how place x o)
unfolding hand_to
hand_to_keeps w how place x None on at_host k = nothing_keeps w k
hand_to_keeps w how place x (Some at) on at_host k = hand_at_keeps w how place x at (slice_get w.nodes at) on at_host refl k

hand_frame_keeps : (w : WorldState) (how : Delivery) (place : ℕ) (o : Option FrameOnWire) → slice_get w.wire place ≡ o → WorldHolds w → EventKeeps w (hand_frame w how place o)
unfolding hand_frame
hand_frame_keeps w how place None on k = nothing_keeps w k
hand_frame_keeps w how place (Some x) on k = hand_to_keeps w how place x (place_of w.nodes x.to.host) on refl k

hand_place_keeps : (w : WorldState) (how : Delivery) (o : Option ℕ) → WorldHolds w → EventKeeps w (hand_place w how o)
unfolding hand_place
hand_place_keeps w how None k = nothing_keeps w k
hand_place_keeps w how (Some place) k = hand_frame_keeps w how place (slice_get w.wire place) refl k

hands_keep : (w : WorldState) (how : Delivery) (number : ℕ) → WorldHolds w → EventKeeps w (hands w how number)
unfolding hands
hands_keep w how number k = hand_place_keeps w how (wire_place w.wire number) k

lose_frame_keeps : (w : WorldState) (place : ℕ) (o : Option FrameOnWire) → slice_get w.wire place ≡ o → WorldHolds w → EventKeeps w (lose_frame w place o)
unfolding lose_frame
lose_frame_keeps w place None on k = nothing_keeps w k
lose_frame_keeps w place (Some x) on k = record {
  links = refl;
  goes = Then (cut w) _ _ (Leaves (cut w) place) (subst (Goes (wiring w.links) _) (net_is _ _ _ _ refl (sym (map_remove cut_wired w.wire place))) (Stays _));
  hosts = k.hosts;
  queues = k.queues;
  wire = all_remove (λ y. GoesDefault y.frame) w.wire place k.wire;
  leads = all_remove (λ (y : FrameOnWire). far_end w.links y.from.host y.from.dev ≡ Some y.to) w.wire place k.leads;
  version = refl;
  versions = k.versions;
  lines = All-cons IsRouted (Off x.number) (Lost (what_of x.frame.frame) ∷ []) tt (All-cons IsRouted (Lost (what_of x.frame.frame)) [] tt (All-nil IsRouted));
}

lose_place_keeps : (w : WorldState) (o : Option ℕ) → WorldHolds w → EventKeeps w (lose_place w o)
unfolding lose_place
lose_place_keeps w None k = nothing_keeps w k
lose_place_keeps w (Some place) k = lose_frame_keeps w place (slice_get w.wire place) refl k

loses_keep : (w : WorldState) (number : ℕ) → WorldHolds w → EventKeeps w (loses w number)
unfolding loses
loses_keep w number k = lose_place_keeps w (wire_place w.wire number) k

-- ---- events

acted_keeps : (w : WorldState) (e : WorldEvent) → BringsNone w.version e → WorldHolds w → EventKeeps w (acted_event w e)
acted_keeps w (Inject h chunk bound handler) n k = steps_keep w h none_before (λ node. inject_step [] node chunk bound handler) (λ node. All-nil IsRouted)
    (record { keeps = λ node v q. inject_keeps (wiring w.links) (λ v. Unit {0}) node chunk bound handler q; stays = λ node. inject_stays node chunk bound handler }) k
acted_keeps w (Send h d) n k = sends_keep w h d k
acted_keeps w (Deliver number) n k = hands_keep w Taking number k
acted_keeps w (Repeat number) n k = hands_keep w Leaving number k
acted_keeps w (Lose number) n k = loses_keep w number k
acted_keeps w (Tick h) n k = steps_keep w h none_before tick_step (λ node. All-nil IsRouted)
    (record { keeps = λ node v q. tick_keeps (wiring w.links) (λ v. Unit {0}) node q; stays = λ node. (tick_stays node).node }) k
acted_keeps w (Raw h d bytes) n k = steps_keep w h (forged_at h bytes) (λ node. arrive_step node d bytes) (λ node. forged_routed h (read_by node.version bytes))
    (record { keeps = λ node is q. bytes_keep (wiring w.links) (λ v. Unit {0}) node d bytes (subst (λ v. CarriesNone (read_by v bytes)) (sym is) n) q; stays = λ node. (arrive_stays node d bytes).node }) k

-- each event keeps them, and is some moves
pub event_keeps : (w : WorldState) (e : WorldEvent) → BringsNone w.version e → WorldHolds w → EventKeeps w (happens w e)
event_keeps w e n k =
    let a = acted_keeps w e n k in
    record { links = a.links; goes = a.goes; hosts = a.hosts; queues = a.queues; wire = a.wire; leads = a.leads; version = a.version; versions = a.versions; lines = a.lines }

pub event_holds : (w : WorldState) (e : WorldEvent) → BringsNone w.version e → WorldHolds w → WorldHolds (happens w e).world
event_holds w e n k =
    let a = event_keeps w e n k in
    let P : Cables → Type 0 = λ links. CutHolds (wiring links) (cut (happens w e).world) in
    record {
      routes = subst P (sym a.links) (goes_keep (wiring w.links) (cut w) (cut (happens w e).world) k.routes a.goes);
      hosts = a.hosts;
      queues = a.queues;
      wire = a.wire;
      leads = let Q : Cables → Type 0 = λ links. WireLeads links (happens w e).world.wire in subst Q (sym a.links) a.leads;
      versions = subst (λ v. All (λ node. node.version ≡ v) (happens w e).world.nodes) (sym a.version) a.versions;
    }
