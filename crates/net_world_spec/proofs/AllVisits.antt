-- An event's lines have one end of a visit for each of its visits.
use Rattle.std.proofs.Common.{◌≡◌, ℕ, Bool, true, false, cond, List, [], ◌∷◌, ◌++◌, length, refl, ◌∙◌, arith}
use Rattle.std.specs.Prelude.{map, slice_get, nat_lt, ◌==◌, Option, Some, None, Result, Ok, Err, All}
use Rattle.std.proofs.lemmas.List.Elements.{All-nil, All-cons, All-head, All-tail}
use Rattle.plan_base.specs.declared.ids.Host.{Host}
use Rattle.plan_base.specs.declared.ids.Dev.{Dev}
use Rattle.plan_base.specs.declared.name.Name.{Name}
use Rattle.plan_base.specs.declared.tree.Chunk.{Chunk}
use Rattle.plan_base.specs.declared.tree.Packet.{Packet}
use Rattle.packet_frame.specs.declared.frame.PlainFrame.{PlainFrame}
use Rattle.packet_frame.specs.declared.fault.FrameFault.{FrameFault}
use Rattle.packet_frame.specs.declared.frame.PlainStamped.{PlainStamped}
use Rattle.packet_frame.specs.Stamped.{stamped_bytes}
use Rattle.packet_frame.specs.Decoding.{read_by}
use Rattle.plan_base.specs.declared.stamp.Stamp.{Stamp}
use Rattle.replay_window.specs.declared.window.Took.{Took}
use Rattle.replay_window.specs.declared.window.Took.TheVariants.{Fresh, Repeated, TooOld}
use Rattle.service_api.specs.declared.advert.Advert.{Advert}
use Rattle.service_api.specs.declared.answer.Note.{Note}
use Rattle.service_api.specs.declared.router.Hop.{Hop}
use Rattle.service_api.specs.declared.router.Hop.TheVariants.{To, NoService, NoRoute}
use Rattle.service_api.specs.Routes.{hop}
use Rattle.dv_routing.specs.Routing.{all_routes, own_advert}
use Rattle.plan_meaning.specs.declared.sent.Sent.{Sent}
use Rattle.network_config.specs.declared.event.WorldEvent.{WorldEvent}
use Rattle.network_config.specs.declared.event.WorldEvent.TheVariants.{Inject, Send, Deliver, Repeat, Lose, Tick, Raw}
use Rattle.packet_frame.specs.Spelled.{what_of}
use Rattle.node_core_spec.specs.declared.acts.Act.{Act}
use Rattle.node_core_spec.specs.declared.acts.Act.TheVariants.{Injected, Arrived, Noted, Ended, Handled, Dropped, Bad, Misplaced, Stale, Heard, Ticked, Taken, SerialsSpent}
use Rattle.node_core_spec.specs.declared.acts.Reason.TheVariants as reason
use Rattle.node_core_spec.specs.declared.acts.TxQueue.{TxQueue}
use Rattle.node_core_spec.specs.declared.acts.Sending.{Sending}
use Rattle.node_core_spec.specs.State.{Links, Queues, NodeState, routing_of, is_host, leads_to}
use Rattle.plan_eval_settle.specs.declared.settling.Settled.{Settled}
use Rattle.plan_base.specs.declared.ids.Family.{Family}
use Rattle.node_core_spec.specs.Visits.{visit_at, settled_at}
use Rattle.node_core_spec.specs.Node.{NodeStep, stepped_node, lane_room, mark, packet_sending, advert_sending, visit_sends, tick_sends, has_room, drop_act, send_act, send_queues, sends_acts}
use Rattle.node_core_spec.specs.Node.{handled_acts, visit_acts, visit_step, next_serial, injected_packet, inject_step, forward_by, forward_step, packet_step, hearing, advert_step, frame_step}
use Rattle.node_core_spec.specs.Node.{takes_as, stamped_as, stamped_step, arrived_read, arrive_step, next_tick, tick_step, take_first, take_from, take_step}
use Rattle.node_core_spec.specs.Counts.{act_sum}
use Rattle.node_core_spec.proofs.CountLaws.{act_sum-nil, act_sum-cons, act_sum-append}
use Rattle.net_world_spec.specs.declared.lines.Line.{Line}
use Rattle.net_world_spec.specs.declared.lines.Line.TheVariants.{Forged, Wire, Off, Again, Lost, Nothing}
use Rattle.net_world_spec.specs.declared.lines.LinkEnd.{LinkEnd}
use Rattle.net_world_spec.specs.declared.lines.FrameOnWire.{FrameOnWire}
use Rattle.net_world_spec.specs.declared.lines.Delivery.{Delivery}
use Rattle.net_world_spec.specs.declared.lines.Delivery.TheVariants.{Taking, Leaving}
use Rattle.net_world_spec.specs.World.{WorldState, EventResult, nothing, lines_at, step_at, step_place, steps, none_before, forged_frame, forged_lines, forged_at, send_taken, send_at, send_over}
use Rattle.net_world_spec.specs.World.{send_place, sends, place_of, far_end, wire_place, hand_line, hand_at, hand_to, hand_frame, hand_place, hands, lose_frame, lose_place, loses, happens}
use Rattle.net_world_spec.specs.Counts.{line_sum}
use Rattle.net_world_spec.specs.Visits.{Visiting, one_visit, frame_visits, visits_as, stamped_visits, read_visits, bytes_visits, chunk_visits, item_at, at_node, at_host, of_wired, delivered_visits, event_visits, act_ends, line_ends}
use Rattle.net_world_spec.proofs.CountLaws.{line_sum-nil, line_sum-cons, line_sum-one, line_sum-append, line_sum-at}

-- ---- steps

-- a frame to be queued ends no visit
record Quiet (s : Sending) : Type 0 where
  queued : act_ends s.queued ≡ 0
  dropped : act_ends s.dropped ≡ 0
  spent : act_ends s.spent ≡ 0

quiet_packets : (m : Option Stamp) (ss : List Sent) → All Quiet (map (packet_sending m) ss)
quiet_packets m [] = All-nil Quiet
quiet_packets m (s ∷ ss) = All-cons Quiet (packet_sending m s) (map (packet_sending m) ss) (record { queued = refl; dropped = refl; spent = refl }) (quiet_packets m ss)

quiet_adverts : (m : Option Stamp) (a : Advert) (links : Links) → All Quiet (map (advert_sending m a) links)
quiet_adverts m a [] = All-nil Quiet
quiet_adverts m a (l ∷ ls) = All-cons Quiet (advert_sending m a l) (map (advert_sending m a) ls) (record { queued = refl; dropped = refl; spent = refl }) (quiet_adverts m a ls)

act_cases : (t : Bool) (a b : Act) → act_ends a ≡ 0 → act_ends b ≡ 0 → act_ends (cond t a b) ≡ 0
act_cases true a b x y = x
act_cases false a b x y = y

drop_none : (o : Option TxQueue) (s : Sending) → Quiet s → act_ends (drop_act o s) ≡ 0
drop_none None s q = q.dropped
drop_none (Some lane) s q = act_cases (lane_room lane) s.spent s.dropped q.spent q.dropped

send_none : (queues : Queues) (s : Sending) → Quiet s → act_ends (send_act queues s) ≡ 0
unfolding send_act
send_none queues s q = act_cases (has_room queues s.dev s.frame) s.queued (drop_act (slice_get queues s.dev.0) s) q.queued (drop_none (slice_get queues s.dev.0) s q)

sends_none : (queues : Queues) (ss : List Sending) → All Quiet ss → act_sum act_ends (sends_acts queues ss) ≡ 0
unfolding sends_acts
sends_none queues [] q = act_sum-nil act_ends
sends_none queues (s ∷ ss) q =
    omega (arith, act_sum-cons act_ends (send_act queues s) (sends_acts (send_queues queues s) ss), send_none queues s (All-head Quiet s ss q), sends_none (send_queues queues s) ss (All-tail Quiet s ss q))

notes_none : (ns : List Note) → act_sum act_ends (map Noted ns) ≡ 0
notes_none [] = act_sum-nil act_ends
notes_none (n ∷ ns) = omega (arith, act_sum-cons act_ends (Noted n) (map Noted ns), notes_none ns)

handled_none : (g : Family) (h : Option Name) (bound : ℕ) → act_sum act_ends (handled_acts g h bound) ≡ 0
handled_none g None bound = act_sum-nil act_ends
handled_none g (Some n) bound = omega (arith, act_sum-cons act_ends (Handled g n bound) [], act_sum-nil act_ends)

visit_one : (m : Option Stamp) (queues : Queues) (p : Packet) (left : ℕ) (s : Settled) → act_sum act_ends (visit_acts m queues p left s) ≡ 1
unfolding visit_acts visit_sends
visit_one m queues p left s =
    let v = s.visit in
    let ended = Ended p.family v.outcome v.evals v.left in
    let handled = handled_acts p.family s.handled left in
    let sent = sends_acts queues (map (packet_sending m) v.outbox) in
    omega (
      arith,
      act_sum-append act_ends (map Noted v.notes) (ended ∷ (handled ++ sent)),
      act_sum-cons act_ends ended (handled ++ sent),
      act_sum-append act_ends handled sent,
      notes_none v.notes,
      handled_none p.family s.handled left,
      sends_none queues (map (packet_sending m) v.outbox) (quiet_packets m v.outbox),
    )

-- a step with this many ends of visits
abbrev Ends : NodeStep → ℕ → Type 0
Ends step n = act_sum act_ends step.acts ≡ n

visited_one : (act : Act) (node : NodeState) (p : Packet) → act_ends act ≡ 0 → Ends (visit_step (act ∷ []) node p) 1
unfolding visit_step
visited_one act node p z =
    let left = (visit_at node p).left in
    let s = settled_at node p in
    omega (arith, act_sum-append act_ends (act ∷ []) (visit_acts (mark node) node.queues p left s), act_sum-cons act_ends act [], act_sum-nil act_ends, visit_one (mark node) node.queues p left s)

two_none : (a b : Act) (node : NodeState) → act_ends a ≡ 0 → act_ends b ≡ 0 → Ends (stepped_node (a ∷ b ∷ []) None node) 0
two_none a b node x y = omega (arith, act_sum-cons act_ends a (b ∷ []), act_sum-cons act_ends b [], act_sum-nil act_ends)

step_cases : (t : Bool) (a b : NodeStep) (n m : ℕ) → Ends a n → Ends b m → Ends (cond t a b) (cond t n m)
step_cases true a b n m x y = x
step_cases false a b n m x y = y

same : (t : Bool) (n : ℕ) → cond t n n ≡ n
same true n = refl
same false n = refl

visits_length : (t : Bool) (node : NodeState) (p : Packet) → cond t 1 0 ≡ length (cond t (one_visit node p) [])
visits_length true node p = refl
visits_length false node p = refl

no_visits_length : (t : Bool) (node : NodeState) (p : Packet) → cond t 0 1 ≡ length (cond t [] (one_visit node p))
no_visits_length true node p = refl
no_visits_length false node p = refl

by_none : (node : NodeState) (d : Dev) (p : Packet) (o : Hop) → Ends (forward_by node d p o) 0
unfolding forward_by
by_none node d p (To host over) =
    let s = packet_sending (mark node) (record { dev = over; packet = p }) in
    two_none (Arrived d) (send_act node.queues s) node refl (send_none node.queues s (record { queued = refl; dropped = refl; spent = refl }))
by_none node d p NoService = two_none (Arrived d) (Dropped reason.NoService p.family p.bound) node refl refl
by_none node d p NoRoute = two_none (Arrived d) (Dropped reason.NoRoute p.family p.bound) node refl refl

forward_none : (node : NodeState) (d : Dev) (p : Packet) → Ends (forward_step node d p) 0
unfolding forward_step
forward_none node d p = step_cases (p.bound == 0) _ _ 0 0 (two_none (Arrived d) (Dropped reason.NoBound p.family 0) node refl refl) (by_none node d p (hop (all_routes (routing_of node)) p.route node.here p.dest)) ∙ same (p.bound == 0) 0

packet_ends : (node : NodeState) (d : Dev) (p : Packet) → Ends (packet_step node d p) (length (frame_visits (PlainFrame.Packet p) node))
unfolding packet_step
packet_ends node d p = step_cases (is_host p.dest node.here) _ _ 1 0 (visited_one (Arrived d) node p refl) (forward_none node d p) ∙ visits_length (is_host p.dest node.here) node p

advert_none : (node : NodeState) (d : Dev) (a : Advert) → Ends (advert_step node d a) 0
unfolding advert_step
advert_none node d a = step_cases (leads_to node.neighbours d a.host) _ _ 0 0 (two_none (Arrived d) (Heard d) (hearing node d a) refl refl) (two_none (Arrived d) Misplaced node refl refl) ∙ same (leads_to node.neighbours d a.host) 0

frame_ends : (node : NodeState) (d : Dev) (x : PlainFrame) → Ends (frame_step node d x) (length (frame_visits x node))
frame_ends node d (PlainFrame.Packet p) = packet_ends node d p
frame_ends node d (PlainFrame.Advert a) = advert_none node d a
frame_ends node d (PlainFrame.Ask bound chunk) = two_none (Arrived d) Misplaced node refl refl

-- a frame that is stale is not visited
as_ends : (node : NodeState) (d : Dev) (x : PlainStamped) (t : Took) → Ends (stamped_as node d x t) (length (visits_as t x.frame node))
as_ends node d x Fresh = frame_ends node d x.frame
as_ends node d x Repeated = two_none (Arrived d) (Stale Repeated (what_of x.frame)) node refl refl
as_ends node d x TooOld = two_none (Arrived d) (Stale TooOld (what_of x.frame)) node refl refl

stamped_ends : (node : NodeState) (d : Dev) (x : PlainStamped) → Ends (stamped_step node d x) (length (stamped_visits d x node))
unfolding stamped_step stamped_visits
stamped_ends node d x = as_ends node d x (takes_as node.seen d x.stamp)

arrived_ends : (node : NodeState) (d : Dev) (r : Result PlainStamped FrameFault) → Ends (arrived_read node d r) (length (read_visits d r node))
arrived_ends node d (Ok x) = stamped_ends node d x
arrived_ends node d (Err e) = two_none (Arrived d) (Bad e) node refl refl

arrive_ends : (node : NodeState) (d : Dev) (bytes : List ℕ) → Ends (arrive_step node d bytes) (length (bytes_visits d bytes node))
unfolding arrive_step
arrive_ends node d bytes = arrived_ends node d (read_by node.version bytes)

spent_none : (node : NodeState) → Ends (stepped_node (SerialsSpent ∷ []) None node) 0
spent_none node = omega (arith, act_sum-cons act_ends SerialsSpent [], act_sum-nil act_ends)

inject_ends : (node : NodeState) (chunk : Chunk) (bound : ℕ) (handler : Option Name) → Ends (inject_step [] node chunk bound handler) (length (chunk_visits chunk bound handler node))
unfolding inject_step
inject_ends node chunk bound handler =
    step_cases (node.serial == 18446744073709551615) _ _ 0 1 (spent_none node) (visited_one (Injected (record { source = node.here; serial = node.serial }) bound) (next_serial node) (injected_packet node chunk bound handler) refl)
    ∙ no_visits_length (node.serial == 18446744073709551615) (next_serial node) (injected_packet node chunk bound handler)

tick_none : (node : NodeState) → Ends (tick_step node) 0
unfolding tick_step tick_sends
tick_none node =
    let a = own_advert (routing_of node) in
    let ss = map (advert_sending (mark node) a) node.neighbours in
    omega (arith, act_sum-cons act_ends (Ticked (next_tick node.now)) (sends_acts node.queues ss), sends_none node.queues ss (quiet_adverts (mark node) a node.neighbours))

take_first_none : (node : NodeState) (d : Dev) (n : ℕ) (queue : List PlainStamped) → Ends (take_first node d n queue) 0
take_first_none node d n [] = act_sum-nil act_ends
take_first_none node d n (x ∷ queue) = omega (arith, act_sum-cons act_ends (Taken d (what_of x.frame)) [], act_sum-nil act_ends)

take_from_none : (node : NodeState) (d : Dev) (o : Option TxQueue) → Ends (take_from node d o) 0
take_from_none node d None = act_sum-nil act_ends
take_from_none node d (Some lane) = take_first_none node d lane.number lane.frames

take_none : (node : NodeState) (d : Dev) → Ends (take_step node d) 0
unfolding take_step
take_none node d = take_from_none node d (slice_get node.queues d.0)

-- ---- events

-- an event whose lines have this many ends of visits
abbrev Has : EventResult → ℕ → Type 0
Has h n = line_sum line_ends h.lines ≡ n

acts_end : (h : Host) (acts : List Act) → line_sum line_ends (lines_at h acts) ≡ act_sum act_ends acts
acts_end h acts = line_sum-at line_ends h acts

nothing_has : (w : WorldState) → Has (nothing w) 0
nothing_has w = line_sum-one line_ends Nothing

frame_none : (h : Host) (x : PlainFrame) → line_sum line_ends (forged_frame h x) ≡ 0
frame_none h (PlainFrame.Packet p) = line_sum-one line_ends (Forged h p.family p.bound)
frame_none h (PlainFrame.Advert a) = line_sum-nil line_ends
frame_none h (PlainFrame.Ask bound chunk) = line_sum-nil line_ends

forged_none : (h : Host) (r : Result PlainStamped FrameFault) → line_sum line_ends (forged_lines h r) ≡ 0
forged_none h (Ok x) = frame_none h x.frame
forged_none h (Err e) = line_sum-nil line_ends

-- a step of one node, and its visits
module _ (w : WorldState) (h : Host) (before : NodeState → List Line)
    (quiet : (node : NodeState) → line_sum line_ends (before node) ≡ 0) (step : NodeState → NodeStep) (visits : NodeState → List Visiting)
    (each : (node : NodeState) → Ends (step node) (length (visits node))) where
  step_at_has : (at : ℕ) (o : Option NodeState) → Has (step_at w h before step at o) (length (at_node visits o))
  unfolding step_at
  step_at_has at None = nothing_has w
  step_at_has at (Some node) = omega (arith, line_sum-append line_ends (before node) (lines_at h (step node).acts), quiet node, acts_end h (step node).acts, each node)

  step_place_has : (o : Option ℕ) → Has (step_place w h before step o) (length (at_node visits (item_at w.nodes o)))
  unfolding step_place
  step_place_has None = nothing_has w
  step_place_has (Some at) = step_at_has at (slice_get w.nodes at)

  steps_have : Has (steps w h before step) (length (at_host w h visits))
  unfolding steps at_host
  steps_have = step_place_has (place_of w.nodes h)

-- a step without visits
no_visits : NodeState → List Visiting
no_visits node = []

none_at : (o : Option NodeState) → length (at_node no_visits o) ≡ 0
unfolding no_visits
none_at None = refl
none_at (Some node) = refl

none_there : (w : WorldState) (h : Host) → length (at_host w h no_visits) ≡ 0
unfolding at_host
none_there w h = none_at (item_at w.nodes (place_of w.nodes h))

tick_visits : (node : NodeState) → Ends (tick_step node) (length (no_visits node))
unfolding no_visits
tick_visits node = tick_none node

send_taken_has : (w : WorldState) (h : Host) (d : Dev) (at : ℕ) (to : LinkEnd) (step : NodeStep) (o : Option PlainStamped) → Ends step 0 → Has (send_taken w h d at to step o) 0
unfolding send_taken
send_taken_has w h d at to step None e = nothing_has w
send_taken_has w h d at to step (Some x) e =
    let line = Wire w.«next» (stamped_bytes x) in
    omega (arith, line_sum-append line_ends (lines_at h step.acts) (line ∷ []), line_sum-one line_ends line, acts_end h step.acts, e)

send_at_has : (w : WorldState) (h : Host) (d : Dev) (at : ℕ) (to : LinkEnd) (o : Option NodeState) → Has (send_at w h d at to o) 0
unfolding send_at
send_at_has w h d at to None = nothing_has w
send_at_has w h d at to (Some node) = send_taken_has w h d at to (take_step node d) (take_step node d).frame (take_none node d)

choice_has : (t : Bool) (a b : EventResult) (n : ℕ) → Has a n → Has b n → Has (cond t a b) n
choice_has true a b n x y = x
choice_has false a b n x y = y

send_over_has : (w : WorldState) (h : Host) (d : Dev) (at : ℕ) (o : Option LinkEnd) → Has (send_over w h d at o) 0
unfolding send_over
send_over_has w h d at None = nothing_has w
send_over_has w h d at (Some to) = choice_has (nat_lt (length w.wire) 4096) _ _ 0 (send_at_has w h d at to (slice_get w.nodes at)) (nothing_has w)

send_place_has : (w : WorldState) (h : Host) (d : Dev) (o : Option ℕ) → Has (send_place w h d o) 0
unfolding send_place
send_place_has w h d None = nothing_has w
send_place_has w h d (Some at) = send_over_has w h d at (far_end w.links h d)

sends_have : (w : WorldState) (h : Host) (d : Dev) → Has (sends w h d) 0
unfolding sends
sends_have w h d = send_place_has w h d (place_of w.nodes h)

hand_none : (how : Delivery) (number : ℕ) → line_sum line_ends (hand_line how number ∷ []) ≡ 0
hand_none Taking number = line_sum-one line_ends (Off number)
hand_none Leaving number = line_sum-one line_ends (Again number)

hand_at_has : (w : WorldState) (how : Delivery) (place : ℕ) (x : FrameOnWire) (at : ℕ) (o : Option NodeState) → Has (hand_at w how place x at o) (length (at_node (stamped_visits x.to.dev x.frame) o))
unfolding hand_at
hand_at_has w how place x at None = nothing_has w
hand_at_has w how place x at (Some node) =
    let acts = (stamped_step node x.to.dev x.frame).acts in
    omega (arith, line_sum-append line_ends (hand_line how x.number ∷ []) (lines_at x.to.host acts), hand_none how x.number, acts_end x.to.host acts, stamped_ends node x.to.dev x.frame)

hand_to_has : (w : WorldState) (how : Delivery) (place : ℕ) (x : FrameOnWire) (o : Option ℕ) → Has (hand_to w how place x o) (length (at_node (stamped_visits x.to.dev x.frame) (item_at w.nodes o)))
unfolding hand_to
hand_to_has w how place x None = nothing_has w
hand_to_has w how place x (Some at) = hand_at_has w how place x at (slice_get w.nodes at)

hand_frame_has : (w : WorldState) (how : Delivery) (place : ℕ) (o : Option FrameOnWire) → Has (hand_frame w how place o) (length (of_wired w o))
unfolding hand_frame at_host
hand_frame_has w how place None = nothing_has w
hand_frame_has w how place (Some x) = hand_to_has w how place x (place_of w.nodes x.to.host)

hand_place_has : (w : WorldState) (how : Delivery) (o : Option ℕ) → Has (hand_place w how o) (length (of_wired w (item_at w.wire o)))
unfolding hand_place
hand_place_has w how None = nothing_has w
hand_place_has w how (Some place) = hand_frame_has w how place (slice_get w.wire place)

hands_have : (w : WorldState) (how : Delivery) (number : ℕ) → Has (hands w how number) (length (delivered_visits w number))
unfolding hands delivered_visits
hands_have w how number = hand_place_has w how (wire_place w.wire number)

lose_frame_has : (w : WorldState) (place : ℕ) (o : Option FrameOnWire) → Has (lose_frame w place o) 0
unfolding lose_frame
lose_frame_has w place None = nothing_has w
lose_frame_has w place (Some x) = omega (arith, line_sum-cons line_ends (Off x.number) (Lost (what_of x.frame.frame) ∷ []), line_sum-one line_ends (Lost (what_of x.frame.frame)))

lose_place_has : (w : WorldState) (o : Option ℕ) → Has (lose_place w o) 0
unfolding lose_place
lose_place_has w None = nothing_has w
lose_place_has w (Some place) = lose_frame_has w place (slice_get w.wire place)

loses_have : (w : WorldState) (number : ℕ) → Has (loses w number) 0
unfolding loses
loses_have w number = lose_place_has w (wire_place w.wire number)

-- one end for each visit
pub event_has : (w : WorldState) (e : WorldEvent) → line_sum line_ends (happens w e).lines ≡ length (event_visits w e)
event_has w (Inject h chunk bound handler) =
    steps_have w h none_before (λ node. line_sum-nil line_ends) (λ node. inject_step [] node chunk bound handler) (chunk_visits chunk bound handler) (λ node. inject_ends node chunk bound handler)
event_has w (Send h d) = sends_have w h d
event_has w (Deliver number) = hands_have w Taking number
event_has w (Repeat number) = hands_have w Leaving number
event_has w (Lose number) = loses_have w number
event_has w (Tick h) = steps_have w h none_before (λ node. line_sum-nil line_ends) tick_step no_visits tick_visits ∙ none_there w h
event_has w (Raw h d bytes) =
    steps_have w h (forged_at h bytes) (λ node. forged_none h (read_by node.version bytes)) (λ node. arrive_step node d bytes) (bytes_visits d bytes) (λ node. arrive_ends node d bytes)
