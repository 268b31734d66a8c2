-- Frames join a device's queue at its end, and leave it at its front.
use Rattle.std.proofs.Common.{◌≡◌, ℕ, zero, suc, Bool, true, false, cond, List, [], ◌∷◌, ◌++◌, refl, sym, ap, ◌∙◌, append_assoc}
use Rattle.std.specs.Prelude.{slice_set, slice_get, ◌==◌, Option, Some, None, Result, Ok, Err}
use Rattle.std.proofs.lemmas.List.{append-nil}
use Rattle.plan_base.specs.declared.name.Name.{Name}
use Rattle.plan_base.specs.declared.ids.Dev.{Dev}
use Rattle.plan_base.specs.declared.tree.Chunk.{Chunk}
use Rattle.plan_base.specs.declared.tree.Packet.{Packet}
use Rattle.packet_frame.specs.declared.frame.PlainFrame.{PlainFrame}
use Rattle.packet_frame.specs.declared.frame.PlainStamped.{PlainStamped}
use Rattle.replay_window.specs.declared.window.Took.{Took}
use Rattle.replay_window.specs.declared.window.Took.TheVariants.{Fresh, Repeated, TooOld}
use Rattle.node_core_spec.specs.declared.acts.TxQueue.{TxQueue}
use Rattle.packet_frame.specs.declared.fault.FrameFault.{FrameFault}
use Rattle.packet_frame.specs.Decoding.{read_by}
use Rattle.network_config.specs.declared.event.Event.{Event}
use Rattle.network_config.specs.declared.event.Event.TheVariants as event
use Rattle.service_api.specs.declared.advert.Advert.{Advert}
use Rattle.service_api.specs.declared.router.Hop.{Hop}
use Rattle.service_api.specs.declared.router.Hop.TheVariants.{To, NoService, NoRoute}
use Rattle.service_api.specs.Routes.{hop}
use Rattle.dv_routing.specs.Routing.{all_routes}
use Rattle.node_core_spec.specs.declared.acts.Act.{Act}
use Rattle.node_core_spec.specs.declared.acts.Act.TheVariants.{Injected, Asked, SerialsSpent}
use Rattle.node_core_spec.specs.declared.acts.Sending.{Sending}
use Rattle.node_core_spec.specs.State.{Queues, NodeState, routing_of, is_host, leads_to}
use Rattle.node_core_spec.specs.Visits.{settled_at}
use Rattle.packet_frame.specs.Spelled.{numbered_frame}
use Rattle.node_core_spec.specs.Node.{NodeStep, stepped_node, queue_room, has_room, number_after, lane_with, queue_push, mark, takes_as, stamped_as, stamped_step, asked_plain, take_first}
use Rattle.node_core_spec.specs.Node.{packet_sending, visit_sends, tick_sends, send_queues, sends_queues, visit_step, next_serial, injected_packet, inject_step, forward_by, forward_step, packet_step}
use Rattle.node_core_spec.specs.Node.{advert_step, frame_step, arrived_read, arrive_step, asked_read, control_step, tick_step, take_from, take_step, node_step}
use Rattle.node_core_spec.specs.Orders.{frames_of, queue_at, MovesInOrder, joined, taken}

-- one queue set anew, seen at a device
data SetAt (queues : Queues) (at : ℕ) (new : TxQueue) (d : ℕ) : Type 0 where
  there : d ≡ at → queue_at (slice_set queues at new) d ≡ new.frames → SetAt queues at new d
  elsewhere : queue_at (slice_set queues at new) d ≡ queue_at queues d → SetAt queues at new d

later : (lane : TxQueue) (queues : Queues) (at : ℕ) (new : TxQueue) (d : ℕ) → SetAt queues at new d → SetAt (lane ∷ queues) (suc at) new (suc d)
later lane queues at new d (there e h) = there (ap suc e) h
later lane queues at new d (elsewhere h) = elsewhere h

set_at : (queues : Queues) (at : ℕ) (new : TxQueue) (d : ℕ) → SetAt queues at new d
set_at [] at new d = elsewhere refl
set_at (lane ∷ queues) zero new zero = there refl refl
set_at (lane ∷ queues) zero new (suc d) = elsewhere refl
set_at (lane ∷ queues) (suc at) new zero = elsewhere refl
set_at (lane ∷ queues) (suc at) new (suc d) = later lane queues at new d (set_at queues at new d)

-- frames that join
record Joins (old new : List PlainStamped) : Type 0 where
  more : List PlainStamped
  is : new ≡ old ++ more

none_join : (queue : List PlainStamped) → Joins queue queue
none_join queue = record { more = []; is = sym (append-nil queue) }

join_both : (a b c : List PlainStamped) → Joins a b → Joins b c → Joins a c
join_both a b c x y = record { more = x.more ++ y.more; is = y.is ∙ ap (λ q. q ++ y.more) x.is ∙ append_assoc a x.more y.more }

module _ (d : ℕ) where
  abbrev JoinsAt : Queues → Queues → Type 0
  JoinsAt old new = Joins (queue_at old d) (queue_at new d)

  set_joins : (queues : Queues) (at : ℕ) (x : PlainStamped) (lane : TxQueue) (n : ℕ) → slice_get queues at ≡ Some lane → SetAt queues at (record { frames = lane.frames ++ x ∷ []; number = n }) d
      → JoinsAt queues (slice_set queues at (record { frames = lane.frames ++ x ∷ []; number = n }))
  set_joins queues at x lane n e (there q h) = record { more = x ∷ []; is = h ∙ ap (λ old. old ++ x ∷ []) (sym (ap frames_of (ap (slice_get queues) q ∙ e))) }
  set_joins queues at x lane n e (elsewhere h) = record { more = []; is = h ∙ sym (append-nil (queue_at queues d)) }

  room_joins : (t : Bool) (queues : Queues) (s : Sending) (lane : TxQueue) → slice_get queues s.dev.0 ≡ Some lane → JoinsAt queues (cond t (queue_push queues s.dev s.frame (Some lane)) queues)
  room_joins true queues s lane e = set_joins queues s.dev.0 (numbered_frame lane.number s.frame) lane (number_after lane.number s.frame.stamp) e (set_at queues s.dev.0 (lane_with lane s.frame) d)
  room_joins false queues s lane e = none_join (queue_at queues d)

  place_joins : (o : Option TxQueue) (queues : Queues) (s : Sending) → slice_get queues s.dev.0 ≡ o → JoinsAt queues (cond (queue_room o s.frame) (queue_push queues s.dev s.frame o) queues)
  place_joins None queues s e = none_join (queue_at queues d)
  place_joins (Some lane) queues s e = room_joins (queue_room (Some lane) s.frame) queues s lane e

  send_joins : (queues : Queues) (s : Sending) → JoinsAt queues (send_queues queues s)
  unfolding send_queues has_room
  send_joins queues s = place_joins (slice_get queues s.dev.0) queues s refl

  sends_join : (queues : Queues) (ss : List Sending) → JoinsAt queues (sends_queues queues ss)
  unfolding sends_queues
  sends_join queues [] = none_join (queue_at queues d)
  sends_join queues (s ∷ ss) = join_both (queue_at queues d) (queue_at (send_queues queues s) d) (queue_at (sends_queues (send_queues queues s) ss) d) (send_joins queues s) (sends_join (send_queues queues s) ss)

  -- ---- steps

  abbrev StepJoins : NodeState → NodeStep → Type 0
  StepJoins node step = JoinsAt node.queues step.node.queues

  cases : (t : Bool) (node : NodeState) (a b : NodeStep) → StepJoins node a → StepJoins node b → StepJoins node (cond t a b)
  cases true node a b x y = x
  cases false node a b x y = y

  still : (node : NodeState) → JoinsAt node.queues node.queues
  still node = none_join (queue_at node.queues d)

  visited_joins : (acts : List Act) (node : NodeState) (p : Packet) → StepJoins node (visit_step acts node p)
  unfolding visit_step
  visited_joins acts node p = sends_join node.queues (visit_sends (mark node) (settled_at node p).visit)

  inject_cases : (t : Bool) (before : List Act) (node : NodeState) (chunk : Chunk) (bound : ℕ) (handler : Option Name)
      → StepJoins node (cond t (stepped_node (before ++ SerialsSpent ∷ []) None node)
      (visit_step (before ++ Injected (record { source = node.here; serial = node.serial }) bound ∷ []) (next_serial node) (injected_packet node chunk bound handler)))
  inject_cases true before node chunk bound handler = still node
  inject_cases false before node chunk bound handler = visited_joins _ (next_serial node) (injected_packet node chunk bound handler)

  inject_joins : (before : List Act) (node : NodeState) (chunk : Chunk) (bound : ℕ) (handler : Option Name) → StepJoins node (inject_step before node chunk bound handler)
  unfolding inject_step
  inject_joins before node chunk bound handler = inject_cases (node.serial == 18446744073709551615) before node chunk bound handler

  by_joins : (node : NodeState) (dev : Dev) (p : Packet) (o : Hop) → StepJoins node (forward_by node dev p o)
  unfolding forward_by
  by_joins node dev p (To host over) = send_joins node.queues (packet_sending (mark node) (record { dev = over; packet = p }))
  by_joins node dev p NoService = still node
  by_joins node dev p NoRoute = still node

  forward_joins : (node : NodeState) (dev : Dev) (p : Packet) → StepJoins node (forward_step node dev p)
  unfolding forward_step
  forward_joins node dev p = cases (p.bound == 0) node _ _ (still node) (by_joins node dev p (hop (all_routes (routing_of node)) p.route node.here p.dest))

  packet_joins : (node : NodeState) (dev : Dev) (p : Packet) → StepJoins node (packet_step node dev p)
  unfolding packet_step
  packet_joins node dev p = cases (is_host p.dest node.here) node _ _ (visited_joins _ node p) (forward_joins node dev p)

  advert_joins : (node : NodeState) (dev : Dev) (a : Advert) → StepJoins node (advert_step node dev a)
  unfolding advert_step
  advert_joins node dev a = cases (leads_to node.neighbours dev a.host) node _ _ (still node) (still node)

  frame_joins : (node : NodeState) (dev : Dev) (x : PlainFrame) → StepJoins node (frame_step node dev x)
  frame_joins node dev (PlainFrame.Packet p) = packet_joins node dev p
  frame_joins node dev (PlainFrame.Advert a) = advert_joins node dev a
  frame_joins node dev (PlainFrame.Ask bound chunk) = still node

  as_joins : (node : NodeState) (dev : Dev) (x : PlainStamped) (t : Took) → StepJoins node (stamped_as node dev x t)
  as_joins node dev x Fresh = frame_joins node dev x.frame
  as_joins node dev x Repeated = still node
  as_joins node dev x TooOld = still node

  stamped_joins : (node : NodeState) (dev : Dev) (x : PlainStamped) → StepJoins node (stamped_step node dev x)
  unfolding stamped_step
  stamped_joins node dev x = as_joins node dev x (takes_as node.seen dev x.stamp)

  arrived_joins : (node : NodeState) (dev : Dev) (r : Result PlainStamped FrameFault) → StepJoins node (arrived_read node dev r)
  arrived_joins node dev (Ok x) = stamped_joins node dev x
  arrived_joins node dev (Err e) = still node

  plain_joins : (node : NodeState) (x : PlainFrame) → StepJoins node (asked_plain node x)
  plain_joins node (PlainFrame.Ask bound chunk) = inject_joins (Asked ∷ []) node chunk bound None
  plain_joins node (PlainFrame.Packet p) = still node
  plain_joins node (PlainFrame.Advert a) = still node

  asked_joins : (node : NodeState) (r : Result PlainStamped FrameFault) → StepJoins node (asked_read node r)
  asked_joins node (Ok x) = plain_joins node x.frame
  asked_joins node (Err e) = still node

  tick_joins : (node : NodeState) → StepJoins node (tick_step node)
  unfolding tick_step
  tick_joins node = sends_join node.queues (tick_sends node)

  in_order : (old new : List PlainStamped) → Joins old new → MovesInOrder old new
  in_order old new j = joined j.more j.is

  set_takes : (queues : Queues) (at n : ℕ) (x : PlainStamped) (queue : List PlainStamped) → slice_get queues at ≡ Some (record { frames = x ∷ queue; number = n })
      → SetAt queues at (record { frames = queue; number = n }) d → MovesInOrder (queue_at queues d) (queue_at (slice_set queues at (record { frames = queue; number = n })) d)
  set_takes queues at n x queue e (there q h) = taken x (ap frames_of (ap (slice_get queues) q ∙ e) ∙ ap (λ rest. x ∷ rest) (sym h))
  set_takes queues at n x queue e (elsewhere h) = joined [] (h ∙ sym (append-nil (queue_at queues d)))

  take_first_moves : (node : NodeState) (dev : Dev) (n : ℕ) (queue : List PlainStamped) → slice_get node.queues dev.0 ≡ Some (record { frames = queue; number = n })
      → MovesInOrder (queue_at node.queues d) (queue_at (take_first node dev n queue).node.queues d)
  take_first_moves node dev n [] e = in_order _ _ (still node)
  take_first_moves node dev n (x ∷ queue) e = set_takes node.queues dev.0 n x queue e (set_at node.queues dev.0 (record { frames = queue; number = n }) d)

  take_from_moves : (node : NodeState) (dev : Dev) (o : Option TxQueue) → slice_get node.queues dev.0 ≡ o → MovesInOrder (queue_at node.queues d) (queue_at (take_from node dev o).node.queues d)
  take_from_moves node dev None e = in_order _ _ (still node)
  take_from_moves node dev (Some lane) e = take_first_moves node dev lane.number lane.frames e

  take_moves : (node : NodeState) (dev : Dev) → MovesInOrder (queue_at node.queues d) (queue_at (take_step node dev).node.queues d)
  unfolding take_step
  take_moves node dev = take_from_moves node dev (slice_get node.queues dev.0) refl

  arrive_joins : (node : NodeState) (dev : Dev) (bytes : List ℕ) → StepJoins node (arrive_step node dev bytes)
  unfolding arrive_step
  arrive_joins node dev bytes = arrived_joins node dev (read_by node.version bytes)

  control_joins : (node : NodeState) (bytes : List ℕ) → StepJoins node (control_step node bytes)
  unfolding control_step
  control_joins node bytes = asked_joins node (read_by node.version bytes)

  pub step_moves : (node : NodeState) (e : Event) → MovesInOrder (queue_at node.queues d) (queue_at (node_step node e).node.queues d)
  step_moves node (event.Inject chunk bound handler) = in_order _ _ (inject_joins [] node chunk bound handler)
  step_moves node (event.Frame dev bytes) = in_order _ _ (arrive_joins node dev bytes)
  step_moves node (event.Control bytes) = in_order _ _ (control_joins node bytes)
  step_moves node event.Tick = in_order _ _ (tick_joins node)
  step_moves node (event.Take dev) = take_moves node dev
