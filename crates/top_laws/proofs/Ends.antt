-- An event's lines have the end of its visit, and no other.
use Rattle.std.proofs.Common.{◌≡◌, ℕ, Bool, true, false, cond, List, [], ◌∷◌, ◌++◌, length, refl, sym, ap, ◌∙◌, append_assoc, arith}
use Rattle.std.specs.Prelude.{map, filter, slice_get, ◌==◌, Option, Some, None, Result, Ok, Err}
use Rattle.std.proofs.lemmas.List.{map-append}
use Rattle.std.proofs.lemmas.List.Elements.{filter-append}
use Rattle.std.proofs.lemmas.List.Quantifiers.{position-Some}
use Rattle.std.proofs.lemmas.Option.{get_or_from_slice_get}
use Rattle.plan_base.specs.declared.ids.Host.{Host}
use Rattle.plan_base.specs.declared.ids.Dev.{Dev}
use Rattle.plan_base.specs.declared.name.Name.{Name}
use Rattle.plan_base.specs.declared.tree.Chunk.{Chunk}
use Rattle.plan_base.specs.declared.tree.Packet.{Packet}
use Rattle.replay_window.specs.declared.window.Took.{Took}
use Rattle.replay_window.specs.declared.window.Took.TheVariants.{Fresh, Repeated, TooOld}
use Rattle.packet_frame.specs.declared.frame.PlainFrame.{PlainFrame}
use Rattle.packet_frame.specs.declared.frame.PlainStamped.{PlainStamped}
use Rattle.packet_frame.specs.declared.fault.FrameFault.{FrameFault}
use Rattle.packet_frame.specs.Decoding.{read_by}
use Rattle.dv_routing.proofs.Costs.{same_host}
use Rattle.network_config.specs.declared.event.WorldEvent.{WorldEvent}
use Rattle.network_config.specs.declared.event.WorldEvent.TheVariants.{Inject, Send, Deliver, Repeat, Lose, Tick, Raw}
use Rattle.plan_eval_settle.specs.declared.settling.Settled.{Settled}
use Rattle.node_core_spec.specs.declared.acts.Act.{Act}
use Rattle.node_core_spec.specs.declared.acts.Act.TheVariants.{Injected, Arrived, Noted, Ended}
use Rattle.node_core_spec.specs.State.{NodeState, is_host}
use Rattle.node_core_spec.specs.Visits.{visit_at, settled_at}
use Rattle.node_core_spec.specs.Node.{NodeStep, mark, visit_sends, handled_acts, sends_acts, visit_acts, visit_step, next_serial, injected_packet, inject_step, packet_step, frame_step, takes_as}
use Rattle.node_core_spec.specs.Node.{stamped_as, stamped_step, arrived_read, arrive_step}
use Rattle.net_world_spec.specs.declared.lines.Line.{Line}
use Rattle.net_world_spec.specs.declared.lines.Line.TheVariants.{At}
use Rattle.net_world_spec.specs.declared.lines.FrameOnWire.{FrameOnWire}
use Rattle.net_world_spec.specs.declared.lines.Delivery.{Delivery}
use Rattle.net_world_spec.specs.declared.lines.Delivery.TheVariants.{Taking, Leaving}
use Rattle.net_world_spec.specs.World.{WorldState, lines_at, step_at, step_place, steps, none_before, forged_at, place_of, wire_place, hand_line, hand_at, hand_to, hand_frame, hand_place, hands, happens}
use Rattle.net_world_spec.specs.Counts.{line_sum}
use Rattle.net_world_spec.specs.Visits.{Visiting, one_visit, frame_visits, visits_as, stamped_visits, read_visits, bytes_visits, chunk_visits, item_at, at_node, at_host, of_wired, delivered_visits, event_visits, line_ends}
use Rattle.net_world_spec.proofs.AllVisits.{event_has}
use Rattle.net_world_spec.proofs.CountLaws.{line_sum-cons, line_sum-append}
use Rattle.top_laws.specs.Ends.{is_end, ended_act, ended_line}

-- ---- acts of a step

-- no visit, or one at this host whose end is among the acts
data Shown (here : Host) (acts : List Act) : List Visiting → Type 0 where
  none : Shown here acts []
  one : (v : Visiting) (front back : List Act) → v.node.here ≡ here → acts ≡ front ++ ended_act v ∷ back → Shown here acts (v ∷ [])

visited_shown : (acts : List Act) (node : NodeState) (p : Packet) → Shown node.here (visit_step acts node p).acts (one_visit node p)
unfolding visit_step visit_acts
visited_shown acts node p =
    let s : Settled = settled_at node p in
    let notes = map Noted s.visit.notes in
    let back = handled_acts p.family s.handled (visit_at node p).left ++ sends_acts node.queues (visit_sends (mark node) s.visit) in
    one (record { node = node; packet = p }) (acts ++ notes) back refl (sym (append_assoc acts notes (Ended p.family s.visit.outcome s.visit.evals s.visit.left ∷ back)))

shown_cases : (here : Host) (t : Bool) (a b : NodeStep) (vs ws : List Visiting) → Shown here a.acts vs → Shown here b.acts ws → Shown here (cond t a b).acts (cond t vs ws)
shown_cases here true a b vs ws x y = x
shown_cases here false a b vs ws x y = y

inject_shown : (node : NodeState) (chunk : Chunk) (bound : ℕ) (handler : Option Name) → Shown node.here (inject_step [] node chunk bound handler).acts (chunk_visits chunk bound handler node)
unfolding inject_step
inject_shown node chunk bound handler =
    shown_cases node.here (node.serial == 18446744073709551615) _ _ [] (one_visit (next_serial node) (injected_packet node chunk bound handler)) none
    (visited_shown (Injected (record { source = node.here; serial = node.serial }) bound ∷ []) (next_serial node) (injected_packet node chunk bound handler))

frame_shown : (node : NodeState) (d : Dev) (x : PlainFrame) → Shown node.here (frame_step node d x).acts (frame_visits x node)
unfolding packet_step
frame_shown node d (PlainFrame.Packet p) = shown_cases node.here (is_host p.dest node.here) _ _ (one_visit node p) [] (visited_shown (Arrived d ∷ []) node p) none
frame_shown node d (PlainFrame.Advert a) = none
frame_shown node d (PlainFrame.Ask bound chunk) = none

as_shown : (node : NodeState) (d : Dev) (x : PlainStamped) (t : Took) → Shown node.here (stamped_as node d x t).acts (visits_as t x.frame node)
as_shown node d x Fresh = frame_shown node d x.frame
as_shown node d x Repeated = none
as_shown node d x TooOld = none

stamped_shown : (node : NodeState) (d : Dev) (x : PlainStamped) → Shown node.here (stamped_step node d x).acts (stamped_visits d x node)
unfolding stamped_step stamped_visits
stamped_shown node d x = as_shown node d x (takes_as node.seen d x.stamp)

arrived_shown : (node : NodeState) (d : Dev) (r : Result PlainStamped FrameFault) → Shown node.here (arrived_read node d r).acts (read_visits d r node)
arrived_shown node d (Ok x) = stamped_shown node d x
arrived_shown node d (Err e) = none

arrive_shown : (node : NodeState) (d : Dev) (bytes : List ℕ) → Shown node.here (arrive_step node d bytes).acts (bytes_visits d bytes node)
unfolding arrive_step
arrive_shown node d bytes = arrived_shown node d (read_by node.version bytes)

-- ---- lines of an event

data Lines (lines : List Line) : List Visiting → Type 0 where
  none_ends : Lines lines []
  one_ends : (v : Visiting) (front back : List Line) → lines ≡ front ++ ended_line v ∷ back → Lines lines (v ∷ [])

at_lines : (h here : Host) (before : List Line) (acts : List Act) (vs : List Visiting) → here ≡ h → Shown here acts vs → Lines (before ++ lines_at h acts) vs
unfolding lines_at
at_lines h here before acts vs same none = none_ends
at_lines h here before acts vs same (one v front back there is) =
    one_ends v (before ++ map (At h) front) (map (At h) back)
    (ap (λ more. before ++ map (At h) more) is ∙ ap (λ ls. before ++ ls) (map-append (At h) front (ended_act v ∷ back))
    ∙ sym (append_assoc before (map (At h) front) (At h (ended_act v) ∷ map (At h) back))
    ∙ ap (λ g. (before ++ map (At h) front) ++ At g (ended_act v) ∷ map (At h) back) (sym (there ∙ same)))

-- the node at the place of a host is that host's
of_host : (nodes : List NodeState) (h : Host) (at : ℕ) (node : NodeState) → place_of nodes h ≡ Some at → slice_get nodes at ≡ Some node → node.here ≡ h
of_host nodes h at node place get =
    let p = position-Some (λ n. is_host n.here h) nodes at node place in
    let is = get_or_from_slice_get nodes at node node get in
    same_host node.here h (sym (ap (λ n. is_host n.here h) is) ∙ p.1)

module _ (w : WorldState) (h : Host) (before : NodeState → List Line) (step : NodeState → NodeStep) (visits : NodeState → List Visiting) (each : (node : NodeState) → Shown node.here (step node).acts (visits node)) where
  step_at_lines : (at : ℕ) (o : Option NodeState) → place_of w.nodes h ≡ Some at → slice_get w.nodes at ≡ o → Lines (step_at w h before step at o).lines (at_node visits o)
  unfolding step_at
  step_at_lines at None place get = none_ends
  step_at_lines at (Some node) place get = at_lines h node.here (before node) (step node).acts (visits node) (of_host w.nodes h at node place get) (each node)

  step_place_lines : (o : Option ℕ) → place_of w.nodes h ≡ o → Lines (step_place w h before step o).lines (at_node visits (item_at w.nodes o))
  unfolding step_place
  step_place_lines None place = none_ends
  step_place_lines (Some at) place = step_at_lines at (slice_get w.nodes at) place refl

  steps_lines : Lines (steps w h before step).lines (at_host w h visits)
  unfolding steps at_host
  steps_lines = step_place_lines (place_of w.nodes h) refl

module _ (w : WorldState) (how : Delivery) where
  hand_at_lines : (place : ℕ) (x : FrameOnWire) (at : ℕ) (o : Option NodeState) → place_of w.nodes x.to.host ≡ Some at → slice_get w.nodes at ≡ o
      → Lines (hand_at w how place x at o).lines (at_node (stamped_visits x.to.dev x.frame) o)
  unfolding hand_at
  hand_at_lines place x at None there get = none_ends
  hand_at_lines place x at (Some node) there get =
      at_lines x.to.host node.here (hand_line how x.number ∷ []) (stamped_step node x.to.dev x.frame).acts (stamped_visits x.to.dev x.frame node)
      (of_host w.nodes x.to.host at node there get) (stamped_shown node x.to.dev x.frame)

  hand_to_lines : (place : ℕ) (x : FrameOnWire) (o : Option ℕ) → place_of w.nodes x.to.host ≡ o → Lines (hand_to w how place x o).lines (at_node (stamped_visits x.to.dev x.frame) (item_at w.nodes o))
  unfolding hand_to
  hand_to_lines place x None there = none_ends
  hand_to_lines place x (Some at) there = hand_at_lines place x at (slice_get w.nodes at) there refl

  hand_frame_lines : (place : ℕ) (o : Option FrameOnWire) → Lines (hand_frame w how place o).lines (of_wired w o)
  unfolding hand_frame at_host
  hand_frame_lines place None = none_ends
  hand_frame_lines place (Some x) = hand_to_lines place x (place_of w.nodes x.to.host) refl

  hand_place_lines : (o : Option ℕ) → Lines (hand_place w how o).lines (of_wired w (item_at w.wire o))
  unfolding hand_place
  hand_place_lines None = none_ends
  hand_place_lines (Some place) = hand_frame_lines place (slice_get w.wire place)

  hands_lines : (number : ℕ) → Lines (hands w how number).lines (delivered_visits w number)
  unfolding hands delivered_visits
  hands_lines number = hand_place_lines (wire_place w.wire number)

event_lines : (w : WorldState) (e : WorldEvent) → Lines (happens w e).lines (event_visits w e)
event_lines w (Inject h chunk bound handler) =
    steps_lines w h none_before (λ node. inject_step [] node chunk bound handler) (chunk_visits chunk bound handler) (λ node. inject_shown node chunk bound handler)
event_lines w (Send h d) = none_ends
event_lines w (Deliver number) = hands_lines w Taking number
event_lines w (Repeat number) = hands_lines w Leaving number
event_lines w (Lose number) = none_ends
event_lines w (Tick h) = none_ends
event_lines w (Raw h d bytes) = steps_lines w h (forged_at h bytes) (λ node. arrive_step node d bytes) (bytes_visits d bytes) (λ node. arrive_shown node d bytes)

-- ---- no other line is an end

none_among : (lines : List Line) → line_sum line_ends lines ≡ 0 → filter is_end lines ≡ []
none_among [] e = refl
none_among (x ∷ lines) e =
    let sum = line_sum-cons line_ends x lines in
    let first : line_ends x ≡ 0 = omega (arith, e, sum) in
    let rest : line_sum line_ends lines ≡ 0 = omega (arith, e, sum) in
    ap (λ n. cond (n == 1) (x ∷ filter is_end lines) (filter is_end lines)) first ∙ none_among lines rest

are_ends : (lines : List Line) (vs : List Visiting) → Lines lines vs → line_sum line_ends lines ≡ length vs → filter is_end lines ≡ map ended_line vs
are_ends lines vs none_ends e = none_among lines e
are_ends lines vs (one_ends v front back is) e =
    let split = line_sum-append line_ends front (ended_line v ∷ back) in
    let sum = line_sum-cons line_ends (ended_line v) back in
    let all : line_sum line_ends (front ++ ended_line v ∷ back) ≡ 1 = sym (ap (line_sum line_ends) is) ∙ e in
    let one_is : line_ends (ended_line v) ≡ 1 = refl in
    let before : line_sum line_ends front ≡ 0 = omega (arith, split, sum, all, one_is) in
    let behind : line_sum line_ends back ≡ 0 = omega (arith, split, sum, all, one_is) in
    ap (filter is_end) is ∙ filter-append is_end front (ended_line v ∷ back)
    ∙ ap (λ ls. ls ++ ended_line v ∷ filter is_end back) (none_among front before)
    ∙ ap (λ ls. ended_line v ∷ ls) (none_among back behind)

pub event_ends : (w : WorldState) (e : WorldEvent) → filter is_end (happens w e).lines ≡ map ended_line (event_visits w e)
event_ends w e = are_ends (happens w e).lines (event_visits w e) (event_lines w e) (event_has w e)
