-- Only an injection grants a bound.
use Rattle.std.proofs.Common.{◌≡◌, ℕ, ◌+◌, ◌≤◌, Bool, true, false, cond, if◌then◌else◌, List, [], ◌∷◌, ◌++◌, map, length, Option, Some, None, refl, arith}
use Rattle.std.specs.Prelude.{◌==◌, slice_get, nat_lt}
use Rattle.plan_base.specs.declared.ids.Host.{Host}
use Rattle.plan_base.specs.declared.ids.Dev.{Dev}
use Rattle.plan_base.specs.declared.tree.Chunk.{Chunk}
use Rattle.plan_base.specs.declared.tree.Packet.{Packet}
use Rattle.plan_base.specs.declared.stamp.Stamp.{Stamp}
use Rattle.replay_window.specs.declared.window.Took.{Took}
use Rattle.replay_window.specs.declared.window.Took.TheVariants.{Fresh, Repeated, TooOld}
use Rattle.plan_base.specs.declared.name.Name.{Name}
use Rattle.plan_base.specs.declared.ids.Family.{Family}
use Rattle.packet_frame.specs.declared.frame.PlainFrame.{PlainFrame}
use Rattle.packet_frame.specs.declared.frame.PlainStamped.{PlainStamped}
use Rattle.packet_frame.specs.Stamped.{stamped_bytes}
use Rattle.service_api.specs.declared.advert.Advert.{Advert}
use Rattle.service_api.specs.declared.answer.Note.{Note}
use Rattle.service_api.specs.declared.router.Hop.{Hop}
use Rattle.service_api.specs.declared.router.Hop.TheVariants.{To, NoService, NoRoute}
use Rattle.service_api.specs.Routes.{hop}
use Rattle.dv_routing.specs.Routing.{all_routes, own_advert}
use Rattle.plan_meaning.specs.declared.sent.Sent.{Sent}
use Rattle.network_config.specs.declared.event.WorldEvent.{WorldEvent}
use Rattle.network_config.specs.declared.event.WorldEvent.TheVariants as event
use Rattle.node_core_spec.specs.declared.acts.Act.{Act}
use Rattle.node_core_spec.specs.declared.acts.Act.TheVariants.{Arrived, Noted, Ended, Dropped, Injected, SerialsSpent, Heard, Misplaced}
use Rattle.node_core_spec.specs.declared.acts.Reason.TheVariants as reason
use Rattle.node_core_spec.specs.declared.acts.Sending.{Sending}
use Rattle.node_core_spec.specs.declared.acts.TxQueue.{TxQueue}
use Rattle.node_core_spec.specs.State.{Links, Queues, NodeState, routing_of, is_host, leads_to}
use Rattle.plan_eval_settle.specs.declared.settling.Settled.{Settled}
use Rattle.node_core_spec.specs.Visits.{visit_at, settled_at}
use Rattle.node_core_spec.specs.Node.{NodeStep, send_act, send_queues, sends_acts, has_room, packet_sending, visit_sends, handled_acts, visit_acts, visit_step, inject_step, next_serial}
use Rattle.node_core_spec.specs.Node.{injected_packet, forward_by, forward_step, packet_step, advert_step, frame_step, drop_act, lane_room, mark, takes_as, stamped_as, stamped_step, take_first}
use Rattle.node_core_spec.specs.Node.{tick_step, tick_sends, advert_sending, take_step, take_from, only_acts, hearing}
use Rattle.net_world_spec.specs.declared.lines.Line.{Line}
use Rattle.net_world_spec.specs.declared.lines.Line.TheVariants.{Wire}
use Rattle.net_world_spec.specs.declared.lines.LinkEnd.{LinkEnd}
use Rattle.net_world_spec.specs.declared.lines.FrameOnWire.{FrameOnWire}
use Rattle.net_world_spec.specs.declared.lines.Delivery.{Delivery}
use Rattle.net_world_spec.specs.declared.lines.Delivery.TheVariants.{Taking, Leaving}
use Rattle.net_world_spec.specs.World.{WorldState, nothing, lines_at, steps_at, step_at, step_place, steps, place_of, far_end, send_taken, send_at, send_over, send_place, sends, none_before}
use Rattle.net_world_spec.specs.World.{hand_line, wire_after, with_wire, wire_place, hand_at, hand_to, hand_frame, hand_place, hands, lose_frame, lose_place, loses, happens}
use Rattle.reliable_ports_world.specs.Paid.{sum_of, act_bound, line_bound, event_bound, NotRaw}

pub sum_append : {X : Type 0} (f : X → ℕ) (xs ys : List X) → sum_of f (xs ++ ys) ≡ sum_of f xs + sum_of f ys
sum_append f [] ys = omega arith
sum_append f (x ∷ xs) ys = omega (arith, sum_append f xs ys)

abbrev Acts : List Act → ℕ
Acts acts = sum_of act_bound acts

notes_quiet : (ns : List Note) → Acts (map Noted ns) ≡ 0
notes_quiet [] = refl
notes_quiet (n ∷ ns) = omega (arith, notes_quiet ns)

-- the act of a frame that is to be queued is one of three
one_quiet : (queues : Queues) (s : Sending) → act_bound s.queued ≡ 0 → act_bound s.dropped ≡ 0 → act_bound s.spent ≡ 0 → act_bound (send_act queues s) ≡ 0
unfolding send_act
one_quiet queues s q d p = by (has_room queues s.dev s.frame) (slice_get queues s.dev.0)
  where
    full : (t : Bool) → act_bound (if t then s.spent else s.dropped) ≡ 0
    full true = p
    full false = d

    unsent : (o : Option TxQueue) → act_bound (drop_act o s) ≡ 0
    unsent None = d
    unsent (Some lane) = full (lane_room lane)

    by : (t : Bool) (o : Option TxQueue) → act_bound (if t then s.queued else drop_act o s) ≡ 0
    by true o = q
    by false o = unsent o

send_quiet : (m : Option Stamp) (queues : Queues) (s : Sent) → act_bound (send_act queues (packet_sending m s)) ≡ 0
send_quiet m queues s = one_quiet queues (packet_sending m s) refl refl refl

sends_quiet : (m : Option Stamp) (queues : Queues) (ss : List Sent) → Acts (sends_acts queues (map (packet_sending m) ss)) ≡ 0
unfolding sends_acts
sends_quiet m queues [] = refl
sends_quiet m queues (s ∷ ss) = omega (arith, send_quiet m queues s, sends_quiet m (send_queues queues (packet_sending m s)) ss)

handled_quiet : (g : Family) (h : Option Name) (bound : ℕ) → Acts (handled_acts g h bound) ≡ 0
handled_quiet g None bound = refl
handled_quiet g (Some n) bound = refl

visit_quiet : (m : Option Stamp) (queues : Queues) (p : Packet) (left : ℕ) (s : Settled) → Acts (visit_acts m queues p left s) ≡ 0
unfolding visit_acts visit_sends
visit_quiet m queues p left s =
    let v = s.visit in
    let handled = handled_acts p.family s.handled left in
    let sent = sends_acts queues (map (packet_sending m) v.outbox) in
    omega (
      arith,
      sum_append act_bound (map Noted v.notes) (Ended p.family v.outcome v.evals v.left ∷ (handled ++ sent)),
      sum_append act_bound handled sent,
      notes_quiet v.notes,
      handled_quiet p.family s.handled left,
      sends_quiet m queues v.outbox,
    )

visited_quiet : (acts : List Act) (node : NodeState) (p : Packet) → Acts (visit_step acts node p).acts ≡ Acts acts
unfolding visit_step
visited_quiet acts node p = omega (arith, sum_append act_bound acts (visit_acts (mark node) node.queues p (visit_at node p).left (settled_at node p)), visit_quiet (mark node) node.queues p (visit_at node p).left (settled_at node p))

inject_bound : (node : NodeState) (c : Chunk) (b : ℕ) (o : Option Name) → Acts (inject_step [] node c b o).acts ≤ b
unfolding inject_step
inject_bound node c b o = by (node.serial == 18446744073709551615)
  where
    by : (t : Bool)
        → Acts (cond t (record { acts = SerialsSpent ∷ []; frame = None; node = node })
        (visit_step (Injected (record { source = node.here; serial = node.serial }) b ∷ []) (next_serial node) (injected_packet node c b o))).acts ≤ b
    by true = omega arith
    by false = omega (arith, visited_quiet (Injected (record { source = node.here; serial = node.serial }) b ∷ []) (next_serial node) (injected_packet node c b o))

by_quiet : (node : NodeState) (d : Dev) (p : Packet) (h : Hop) → Acts (forward_by node d p h).acts ≡ 0
unfolding forward_by
by_quiet node d p (To host over) = omega (arith, send_quiet (mark node) node.queues (record { dev = over; packet = p }))
by_quiet node d p NoService = refl
by_quiet node d p NoRoute = refl

packet_quiet : (node : NodeState) (d : Dev) (p : Packet) → Acts (packet_step node d p).acts ≡ 0
unfolding packet_step forward_step
packet_quiet node d p = by (is_host p.dest node.here) (p.bound == 0)
  where
    by : (t u : Bool)
        → Acts (cond t (visit_step (Arrived d ∷ []) node p)
        (cond u (record { acts = Arrived d ∷ Dropped reason.NoBound p.family 0 ∷ []; frame = None; node = node })
        (forward_by node d p (hop (all_routes (routing_of node)) p.route node.here p.dest)))).acts
        ≡ 0
    by true u = visited_quiet (Arrived d ∷ []) node p
    by false true = refl
    by false false = by_quiet node d p (hop (all_routes (routing_of node)) p.route node.here p.dest)

advert_quiet : (node : NodeState) (d : Dev) (x : Advert) → Acts (advert_step node d x).acts ≡ 0
unfolding advert_step
advert_quiet node d x = by (leads_to node.neighbours d x.host)
  where
    by : (t : Bool) → Acts (if t then only_acts (Arrived d) (Heard d) (hearing node d x) else only_acts (Arrived d) Misplaced node).acts ≡ 0
    by true = refl
    by false = refl

frame_quiet : (node : NodeState) (d : Dev) (x : PlainFrame) → Acts (frame_step node d x).acts ≡ 0
frame_quiet node d (PlainFrame.Packet p) = packet_quiet node d p
frame_quiet node d (PlainFrame.Advert x) = advert_quiet node d x
frame_quiet node d (PlainFrame.Ask b c) = refl

as_quiet : (node : NodeState) (d : Dev) (x : PlainStamped) (t : Took) → Acts (stamped_as node d x t).acts ≡ 0
as_quiet node d x Fresh = frame_quiet node d x.frame
as_quiet node d x Repeated = refl
as_quiet node d x TooOld = refl

stamped_quiet : (node : NodeState) (d : Dev) (x : PlainStamped) → Acts (stamped_step node d x).acts ≡ 0
unfolding stamped_step
stamped_quiet node d x = as_quiet node d x (takes_as node.seen d x.stamp)

take_quiet : (node : NodeState) (d : Dev) → Acts (take_step node d).acts ≡ 0
unfolding take_step
take_quiet node d = by (slice_get node.queues d.0)
  where
    first : (number : ℕ) (frames : List PlainStamped) → Acts (take_first node d number frames).acts ≡ 0
    first number [] = refl
    first number (x ∷ queue) = refl

    by : (o : Option TxQueue) → Acts (take_from node d o).acts ≡ 0
    by None = refl
    by (Some lane) = first lane.number lane.frames

adverts_quiet : (m : Option Stamp) (queues : Queues) (x : Advert) (links : Links) → Acts (sends_acts queues (map (advert_sending m x) links)) ≡ 0
unfolding sends_acts
adverts_quiet m queues x [] = refl
adverts_quiet m queues x (l ∷ ls) = omega (arith, one_quiet queues (advert_sending m x l) refl refl refl, adverts_quiet m (send_queues queues (advert_sending m x l)) x ls)

tick_quiet : (node : NodeState) → Acts (tick_step node).acts ≡ 0
unfolding tick_step tick_sends
tick_quiet node = omega (arith, adverts_quiet (mark node) node.queues (own_advert (routing_of node)) node.neighbours)

-- ---- events

lines_bound : (h : Host) (acts : List Act) → sum_of line_bound (lines_at h acts) ≡ Acts acts
unfolding lines_at
lines_bound h [] = refl
lines_bound h (x ∷ xs) = omega (arith, lines_bound h xs)

-- lines of a step of one node
at_bound : (w : WorldState) (h : Host) (at : ℕ) (before : List Line) (step : NodeStep) (n : ℕ) → sum_of line_bound before ≡ 0 → Acts step.acts ≤ n → sum_of line_bound (steps_at w h at before step).lines ≤ n
at_bound w h at before step n b s = omega (arith, sum_append line_bound before (lines_at h step.acts), lines_bound h step.acts, b, s)

steps_bound : (w : WorldState) (h : Host) (step : NodeState → NodeStep) (n : ℕ) → ((node : NodeState) → Acts (step node).acts ≤ n) → sum_of line_bound (steps w h none_before step).lines ≤ n
unfolding steps step_place step_at
steps_bound w h step n f = place (place_of w.nodes h)
  where
    one : (at : ℕ) (o : Option NodeState) → sum_of line_bound (step_at w h none_before step at o).lines ≤ n
    one at None = omega arith
    one at (Some node) = at_bound w h at [] (step node) n refl (f node)

    place : (o : Option ℕ) → sum_of line_bound (step_place w h none_before step o).lines ≤ n
    place None = omega arith
    place (Some at) = one at (slice_get w.nodes at)

taken_bound : (w : WorldState) (h : Host) (d : Dev) (at : ℕ) (to : LinkEnd) (step : NodeStep) (o : Option PlainStamped) → Acts step.acts ≡ 0 → sum_of line_bound (send_taken w h d at to step o).lines ≤ 0
unfolding send_taken
taken_bound w h d at to step None e = omega arith
taken_bound w h d at to step (Some x) e = omega (arith, sum_append line_bound (lines_at h step.acts) (Wire w.«next» (stamped_bytes x) ∷ []), lines_bound h step.acts, e)

sends_bound : (w : WorldState) (h : Host) (d : Dev) → sum_of line_bound (sends w h d).lines ≤ 0
unfolding sends send_place send_over send_at
sends_bound w h d = place (place_of w.nodes h)
  where
    one : (at : ℕ) (to : LinkEnd) (o : Option NodeState) → sum_of line_bound (send_at w h d at to o).lines ≤ 0
    one at to None = omega arith
    one at to (Some node) = taken_bound w h d at to (take_step node d) (take_step node d).frame (take_quiet node d)

    room : (at : ℕ) (to : LinkEnd) (t : Bool) → sum_of line_bound (if t then send_at w h d at to (slice_get w.nodes at) else nothing w).lines ≤ 0
    room at to true = one at to (slice_get w.nodes at)
    room at to false = omega arith

    over : (at : ℕ) (o : Option LinkEnd) → sum_of line_bound (send_over w h d at o).lines ≤ 0
    over at None = omega arith
    over at (Some to) = room at to (nat_lt (length w.wire) 4096)

    place : (o : Option ℕ) → sum_of line_bound (send_place w h d o).lines ≤ 0
    place None = omega arith
    place (Some at) = over at (far_end w.links h d)

hand_line_quiet : (how : Delivery) (n : ℕ) → line_bound (hand_line how n) ≡ 0
hand_line_quiet Taking n = refl
hand_line_quiet Leaving n = refl

hands_bound : (w : WorldState) (how : Delivery) (n : ℕ) → sum_of line_bound (hands w how n).lines ≤ 0
unfolding hands hand_place hand_frame hand_to hand_at
hands_bound w how n = place (wire_place w.wire n)
  where
    node_at : (at0 : ℕ) (x : FrameOnWire) (at : ℕ) (o : Option NodeState) → sum_of line_bound (hand_at w how at0 x at o).lines ≤ 0
    node_at at0 x at None = omega arith
    node_at at0 x at (Some node) =
        at_bound (with_wire w (wire_after how w.wire at0 x)) x.to.host at (hand_line how x.number ∷ []) (stamped_step node x.to.dev x.frame) 0
        (omega (arith, hand_line_quiet how x.number)) (omega (arith, stamped_quiet node x.to.dev x.frame))

    to_node : (at0 : ℕ) (x : FrameOnWire) (o : Option ℕ) → sum_of line_bound (hand_to w how at0 x o).lines ≤ 0
    to_node at0 x None = omega arith
    to_node at0 x (Some at) = node_at at0 x at (slice_get w.nodes at)

    frame : (at0 : ℕ) (o : Option FrameOnWire) → sum_of line_bound (hand_frame w how at0 o).lines ≤ 0
    frame at0 None = omega arith
    frame at0 (Some x) = to_node at0 x (place_of w.nodes x.to.host)

    place : (o : Option ℕ) → sum_of line_bound (hand_place w how o).lines ≤ 0
    place None = omega arith
    place (Some at0) = frame at0 (slice_get w.wire at0)

loses_bound : (w : WorldState) (n : ℕ) → sum_of line_bound (loses w n).lines ≤ 0
unfolding loses lose_place lose_frame
loses_bound w n = place (wire_place w.wire n)
  where
    frame : (at0 : ℕ) (o : Option FrameOnWire) → sum_of line_bound (lose_frame w at0 o).lines ≤ 0
    frame at0 None = omega arith
    frame at0 (Some x) = omega arith

    place : (o : Option ℕ) → sum_of line_bound (lose_place w o).lines ≤ 0
    place None = omega arith
    place (Some at0) = frame at0 (slice_get w.wire at0)

pub event_grants : (w : WorldState) (e : WorldEvent) → NotRaw e → sum_of line_bound (happens w e).lines ≤ event_bound e
event_grants w (event.Inject h c b o) q = steps_bound w h (λ node. inject_step [] node c b o) b (λ node. inject_bound node c b o)
event_grants w (event.Send h d) q = sends_bound w h d
event_grants w (event.Deliver n) q = hands_bound w Taking n
event_grants w (event.Repeat n) q = hands_bound w Leaving n
event_grants w (event.Lose n) q = loses_bound w n
event_grants w (event.Tick h) q = steps_bound w h tick_step 0 (λ node. omega (arith, tick_quiet node))
event_grants w (event.Raw h d bytes) q = absurd q
