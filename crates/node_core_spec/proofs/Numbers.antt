-- The numbers of a device's frames ascend and are below its next one, behind those that it sent before.
use Rattle.std.proofs.Common.{◌≡◌, ℕ, zero, suc, ◌+◌, ◌<◌, Bool, true, false, cond, List, [], ◌∷◌, ◌++◌, refl, sym, ap, ◌∙◌, subst, append_assoc, arith}
use Rattle.std.specs.Prelude.{slice_set, slice_get, ◌==◌, Option, Some, None, Result, Ok, Err}
use Rattle.std.specs.List.{All}
use Rattle.std.proofs.lemmas.List.{append-nil}
use Rattle.std.proofs.lemmas.List.Elements.{All-nil, All-head, All-tail, All-push, All-weaker}
use Rattle.plan_base.specs.declared.name.Name.{Name}
use Rattle.plan_base.specs.declared.ids.Dev.{Dev}
use Rattle.plan_base.specs.declared.tree.Chunk.{Chunk}
use Rattle.plan_base.specs.declared.tree.Packet.{Packet}
use Rattle.packet_frame.specs.declared.frame.PlainFrame.{PlainFrame}
use Rattle.packet_frame.specs.declared.frame.PlainStamped.{PlainStamped}
use Rattle.plan_base.specs.declared.stamp.Stamp.{Stamp}
use Rattle.replay_window.specs.declared.window.Took.{Took}
use Rattle.replay_window.specs.declared.window.Took.TheVariants.{Fresh, Repeated, TooOld}
use Rattle.node_core_spec.specs.declared.acts.TxQueue.{TxQueue}
use Rattle.packet_frame.specs.declared.fault.FrameFault.{FrameFault}
use Rattle.packet_frame.specs.Decoding.{read_by}
use Rattle.network_config.specs.declared.event.Event.{Event}
use Rattle.network_config.specs.declared.event.Event.TheVariants as event
use Rattle.service_api.specs.declared.advert.Advert.{Advert}
use Rattle.service_api.specs.declared.router.Hop.{Hop}
use Rattle.service_api.specs.declared.router.Hop.TheVariants.{To, NoService, NoRoute}
use Rattle.service_api.specs.Routes.{hop}
use Rattle.dv_routing.specs.Routing.{all_routes}
use Rattle.node_core_spec.specs.declared.acts.Act.{Act}
use Rattle.node_core_spec.specs.declared.acts.Act.TheVariants.{Injected, Asked, SerialsSpent}
use Rattle.node_core_spec.specs.declared.acts.Sending.{Sending}
use Rattle.node_core_spec.specs.State.{Queues, NodeState, routing_of, is_host, leads_to}
use Rattle.node_core_spec.specs.Visits.{settled_at}
use Rattle.packet_frame.specs.Spelled.{stamp_with}
use Rattle.node_core_spec.specs.Node.{NodeStep, stepped_node, queue_room, has_room, number_after, lane_with, queue_push, mark, takes_as, stamped_as, stamped_step, asked_plain, packet_sending}
use Rattle.node_core_spec.specs.Node.{visit_sends, tick_sends, send_queues, sends_queues, visit_step, next_serial, injected_packet, inject_step, forward_by, forward_step, packet_step, advert_step}
use Rattle.node_core_spec.specs.Node.{frame_step, arrived_read, arrive_step, asked_read, control_step, tick_step, node_step}
use Rattle.node_core_spec.specs.Numbers.{link_in, numbers_in, Ascend, NumbersFit, FitsAt}

-- a number more that is above all
ascend-push : (ns : List ℕ) (n : ℕ) → Ascend ns → All (λ m. m < n) ns → Ascend (ns ++ n ∷ [])
ascend-push [] n a b = (All-nil (λ m. n < m), tt)
ascend-push (m ∷ ns) n a b = (All-push (λ k. m < k) ns n a.0 (All-head (λ k. k < n) m ns b), ascend-push ns n a.1 (All-tail (λ k. k < n) m ns b))

numbers-push : (xs : List PlainStamped) (x : PlainStamped) → numbers_in (xs ++ x ∷ []) ≡ numbers_in xs ++ link_in x.stamp
numbers-push [] x = append-nil (link_in x.stamp)
numbers-push (y ∷ xs) x = ap (λ l. link_in y.stamp ++ l) (numbers-push xs x) ∙ sym (append_assoc (link_in y.stamp) (numbers_in xs) (link_in x.stamp))

below-more : (ns : List ℕ) (n : ℕ) → All (λ m. m < n) ns → All (λ m. m < n + 1) ns
below-more ns n b = All-weaker (λ m. m < n) (λ m. m < n + 1) (λ m h. omega (arith, h)) ns b

module _ (before : List ℕ) where
  -- a frame joins the queue with the next number
  lane_fits : (lane : TxQueue) (x : PlainStamped) → NumbersFit before lane → NumbersFit before (lane_with lane x)
  lane_fits lane x f = by x.stamp
    where
      whole : (o : Option Stamp) → before ++ numbers_in (lane.frames ++ record { stamp = stamp_with lane.number o; frame = x.frame } ∷ []) ≡ (before ++ numbers_in lane.frames) ++ link_in (stamp_with lane.number o)
      whole o = ap (λ l. before ++ l) (numbers-push lane.frames (record { stamp = stamp_with lane.number o; frame = x.frame })) ∙ sym (append_assoc before (numbers_in lane.frames) (link_in (stamp_with lane.number o)))

      by : (o : Option Stamp) → NumbersFit before (record { frames = lane.frames ++ record { stamp = stamp_with lane.number o; frame = x.frame } ∷ []; number = number_after lane.number o })
      by None =
          let e = whole None ∙ append-nil (before ++ numbers_in lane.frames) in
          record { ascend = subst Ascend (sym e) f.ascend; below = subst (λ l. All (λ n. n < lane.number) l) (sym e) f.below }
      by (Some s) =
          let e = whole (Some s) in
          record {
            ascend = subst Ascend (sym e) (ascend-push (before ++ numbers_in lane.frames) lane.number f.ascend f.below);
            below = subst (λ l. All (λ n. n < lane.number + 1) l) (sym e)
                (All-push (λ n. n < lane.number + 1) (before ++ numbers_in lane.frames) lane.number (below-more (before ++ numbers_in lane.frames) lane.number f.below) (omega arith));
          }

  -- the first frame of a queue goes behind those before
  pub taken_fits : (x : PlainStamped) (queue : List PlainStamped) (n : ℕ) → NumbersFit before (record { frames = x ∷ queue; number = n }) → NumbersFit (before ++ link_in x.stamp) (record { frames = queue; number = n })
  taken_fits x queue n f =
      let e = append_assoc before (link_in x.stamp) (numbers_in queue) in
      record { ascend = subst Ascend (sym e) f.ascend; below = subst (λ l. All (λ m. m < n) l) (sym e) f.below }

-- a lane that is seen where one was set anew: the new one, or one that was there
data SetSeen (queues : Queues) (at : ℕ) (new : TxQueue) (d : ℕ) (lane : TxQueue) : Type 0 where
  new_there : d ≡ at → new ≡ lane → SetSeen queues at new d lane
  old_there : slice_get queues d ≡ Some lane → SetSeen queues at new d lane

abbrev lane_or : TxQueue → Option TxQueue → TxQueue
lane_or l None = l
lane_or l (Some m) = m

seen_later : (l : TxQueue) (queues : Queues) (at : ℕ) (new : TxQueue) (d : ℕ) (lane : TxQueue) → SetSeen queues at new d lane → SetSeen (l ∷ queues) (suc at) new (suc d) lane
seen_later l queues at new d lane (new_there p q) = new_there (ap suc p) q
seen_later l queues at new d lane (old_there q) = old_there q

seen_set : (queues : Queues) (at : ℕ) (new : TxQueue) (d : ℕ) (lane : TxQueue) → slice_get (slice_set queues at new) d ≡ Some lane → SetSeen queues at new d lane
seen_set [] at new d lane e = old_there e
seen_set (l ∷ queues) zero new zero lane e = new_there refl (ap (lane_or new) e)
seen_set (l ∷ queues) zero new (suc d) lane e = old_there e
seen_set (l ∷ queues) (suc at) new zero lane e = old_there e
seen_set (l ∷ queues) (suc at) new (suc d) lane e = seen_later l queues at new d lane (seen_set queues at new d lane e)

module _ (before : List ℕ) (d : ℕ) where
  abbrev KeepsAt : Queues → Queues → Type 0
  KeepsAt old new = FitsAt before d old → FitsAt before d new

  -- a lane set anew, seen at the device
  set_fits : (queues : Queues) (at : ℕ) (new : TxQueue) → FitsAt before d queues → (d ≡ at → NumbersFit before new) → FitsAt before d (slice_set queues at new)
  set_fits queues at new f h lane e = by (seen_set queues at new d lane e)
    where
      by : SetSeen queues at new d lane → NumbersFit before lane
      by (new_there p q) = subst (NumbersFit before) q (h p)
      by (old_there q) = f lane q

  room_rises : (t : Bool) (queues : Queues) (s : Sending) (lane : TxQueue) → slice_get queues s.dev.0 ≡ Some lane → KeepsAt queues (cond t (queue_push queues s.dev s.frame (Some lane)) queues)
  room_rises true queues s lane e f = set_fits queues s.dev.0 (lane_with lane s.frame) f (λ p. lane_fits before lane s.frame (f lane (ap (slice_get queues) p ∙ e)))
  room_rises false queues s lane e f = f

  place_rises : (o : Option TxQueue) (queues : Queues) (s : Sending) → slice_get queues s.dev.0 ≡ o → KeepsAt queues (cond (queue_room o s.frame) (queue_push queues s.dev s.frame o) queues)
  place_rises None queues s e f = f
  place_rises (Some lane) queues s e f = room_rises (queue_room (Some lane) s.frame) queues s lane e f

  send_rises : (queues : Queues) (s : Sending) → KeepsAt queues (send_queues queues s)
  unfolding send_queues has_room
  send_rises queues s f = place_rises (slice_get queues s.dev.0) queues s refl f

  sends_rise : (queues : Queues) (ss : List Sending) → KeepsAt queues (sends_queues queues ss)
  unfolding sends_queues
  sends_rise queues [] f = f
  sends_rise queues (s ∷ ss) f = sends_rise (send_queues queues s) ss (send_rises queues s f)

  -- ---- steps

  abbrev StepRises : NodeState → NodeStep → Type 0
  StepRises node step = KeepsAt node.queues step.node.queues

  cases : (t : Bool) (node : NodeState) (a b : NodeStep) → StepRises node a → StepRises node b → StepRises node (cond t a b)
  cases true node a b x y = x
  cases false node a b x y = y

  still : (node : NodeState) → KeepsAt node.queues node.queues
  still node f = f

  visited_rises : (acts : List Act) (node : NodeState) (p : Packet) → StepRises node (visit_step acts node p)
  unfolding visit_step
  visited_rises acts node p = sends_rise node.queues (visit_sends (mark node) (settled_at node p).visit)

  inject_cases : (t : Bool) (before : List Act) (node : NodeState) (chunk : Chunk) (bound : ℕ) (handler : Option Name)
      → StepRises node (cond t (stepped_node (before ++ SerialsSpent ∷ []) None node)
      (visit_step (before ++ Injected (record { source = node.here; serial = node.serial }) bound ∷ []) (next_serial node) (injected_packet node chunk bound handler)))
  inject_cases true before node chunk bound handler = still node
  inject_cases false before node chunk bound handler = visited_rises _ (next_serial node) (injected_packet node chunk bound handler)

  pub inject_rises : (before : List Act) (node : NodeState) (chunk : Chunk) (bound : ℕ) (handler : Option Name) → StepRises node (inject_step before node chunk bound handler)
  unfolding inject_step
  inject_rises before node chunk bound handler = inject_cases (node.serial == 18446744073709551615) before node chunk bound handler

  by_rises : (node : NodeState) (dev : Dev) (p : Packet) (o : Hop) → StepRises node (forward_by node dev p o)
  unfolding forward_by
  by_rises node dev p (To host over) = send_rises node.queues (packet_sending (mark node) (record { dev = over; packet = p }))
  by_rises node dev p NoService = still node
  by_rises node dev p NoRoute = still node

  forward_rises : (node : NodeState) (dev : Dev) (p : Packet) → StepRises node (forward_step node dev p)
  unfolding forward_step
  forward_rises node dev p = cases (p.bound == 0) node _ _ (still node) (by_rises node dev p (hop (all_routes (routing_of node)) p.route node.here p.dest))

  packet_rises : (node : NodeState) (dev : Dev) (p : Packet) → StepRises node (packet_step node dev p)
  unfolding packet_step
  packet_rises node dev p = cases (is_host p.dest node.here) node _ _ (visited_rises _ node p) (forward_rises node dev p)

  advert_rises : (node : NodeState) (dev : Dev) (a : Advert) → StepRises node (advert_step node dev a)
  unfolding advert_step
  advert_rises node dev a = cases (leads_to node.neighbours dev a.host) node _ _ (still node) (still node)

  frame_rises : (node : NodeState) (dev : Dev) (x : PlainFrame) → StepRises node (frame_step node dev x)
  frame_rises node dev (PlainFrame.Packet p) = packet_rises node dev p
  frame_rises node dev (PlainFrame.Advert a) = advert_rises node dev a
  frame_rises node dev (PlainFrame.Ask bound chunk) = still node

  as_rises : (node : NodeState) (dev : Dev) (x : PlainStamped) (t : Took) → StepRises node (stamped_as node dev x t)
  as_rises node dev x Fresh = frame_rises node dev x.frame
  as_rises node dev x Repeated = still node
  as_rises node dev x TooOld = still node

  pub stamped_rises : (node : NodeState) (dev : Dev) (x : PlainStamped) → StepRises node (stamped_step node dev x)
  unfolding stamped_step
  stamped_rises node dev x = as_rises node dev x (takes_as node.seen dev x.stamp)

  arrived_rises : (node : NodeState) (dev : Dev) (r : Result PlainStamped FrameFault) → StepRises node (arrived_read node dev r)
  arrived_rises node dev (Ok x) = stamped_rises node dev x
  arrived_rises node dev (Err e) = still node

  plain_rises : (node : NodeState) (x : PlainFrame) → StepRises node (asked_plain node x)
  plain_rises node (PlainFrame.Ask bound chunk) = inject_rises (Asked ∷ []) node chunk bound None
  plain_rises node (PlainFrame.Packet p) = still node
  plain_rises node (PlainFrame.Advert a) = still node

  asked_rises : (node : NodeState) (r : Result PlainStamped FrameFault) → StepRises node (asked_read node r)
  asked_rises node (Ok x) = plain_rises node x.frame
  asked_rises node (Err e) = still node

  pub tick_rises : (node : NodeState) → StepRises node (tick_step node)
  unfolding tick_step
  tick_rises node = sends_rise node.queues (tick_sends node)

  pub arrive_rises : (node : NodeState) (dev : Dev) (bytes : List ℕ) → StepRises node (arrive_step node dev bytes)
  unfolding arrive_step
  arrive_rises node dev bytes = arrived_rises node dev (read_by node.version bytes)

  control_rises : (node : NodeState) (bytes : List ℕ) → StepRises node (control_step node bytes)
  unfolding control_step
  control_rises node bytes = asked_rises node (read_by node.version bytes)

  -- every step but a take keeps the numbers
  pub event_rises : (node : NodeState) (e : Event) → ((dev : Dev) → e ≡ event.Take dev → ⊥) → StepRises node (node_step node e)
  event_rises node (event.Inject chunk bound handler) h = inject_rises [] node chunk bound handler
  event_rises node (event.Frame dev bytes) h = arrive_rises node dev bytes
  event_rises node (event.Control bytes) h = control_rises node bytes
  event_rises node event.Tick h = tick_rises node
  event_rises node (event.Take dev) h = absurd (h dev refl)
