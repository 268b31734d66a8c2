-- A step injects a family at most once, where its node may yet give it, and with at most 65,535; and it queues no packet of a family
-- that it doesn't inject and that doesn't come.
use Rattle.std.proofs.Common.{◌≡◌, ℕ, ◌+◌, ◌-◌, ◌*◌, ◌≤◌, Bool, true, false, cond, List, [], ◌∷◌, ◌++◌, refl, sym, ap, ◌∙◌, arith}
use Rattle.std.specs.Prelude.{map, slice_get, nat_le, ◌==◌, ◌&&◌, Option, Some, None, Result, Ok, Err, All}
use Rattle.std.proofs.lemmas.List.Elements.{All-nil, All-cons, All-head, All-tail}
use Rattle.std.proofs.lemmas.Bool.Decides.{nat_tests}
use Rattle.plan_base.specs.declared.name.Name.{Name}
use Rattle.plan_base.specs.declared.ids.Dev.{Dev}
use Rattle.plan_base.specs.declared.ids.Family.{Family}
use Rattle.plan_base.specs.declared.tree.Chunk.{Chunk}
use Rattle.plan_base.specs.declared.tree.Packet.{Packet}
use Rattle.packet_frame.specs.declared.frame.PlainFrame.{PlainFrame}
use Rattle.packet_frame.specs.declared.frame.PlainStamped.{PlainStamped}
use Rattle.plan_base.specs.declared.stamp.Stamp.{Stamp}
use Rattle.replay_window.specs.declared.window.Took.{Took}
use Rattle.replay_window.specs.declared.window.Took.TheVariants.{Fresh, Repeated, TooOld}
use Rattle.node_core_spec.specs.declared.acts.TxQueue.{TxQueue}
use Rattle.packet_frame.specs.declared.fault.FrameFault.{FrameFault}
use Rattle.packet_frame.specs.Decoding.{read_by}
use Rattle.service_api.specs.declared.advert.Advert.{Advert}
use Rattle.service_api.specs.declared.answer.Note.{Note}
use Rattle.service_api.specs.declared.router.Hop.{Hop}
use Rattle.service_api.specs.declared.router.Hop.TheVariants.{To, NoService, NoRoute}
use Rattle.service_api.specs.Routes.{hop}
use Rattle.dv_routing.specs.Routing.{all_routes, own_advert}
use Rattle.plan_meaning.specs.declared.sent.Sent.{Sent}
use Rattle.node_core_spec.specs.declared.acts.Act.{Act}
use Rattle.node_core_spec.specs.declared.acts.Act.TheVariants.{Injected, Arrived, Asked, Noted, Ended, Handled, Queued, Dropped, Bad, Misplaced, AdvertQueued, AdvertDropped, AdvertSpent, Stale, Heard, Ticked, Taken, SerialsSpent, NoMemory}
use Rattle.node_core_spec.specs.declared.acts.Reason.TheVariants as reason
use Rattle.node_core_spec.specs.declared.acts.Sending.{Sending}
use Rattle.packet_frame.specs.Spelled.{what_of}
use Rattle.node_core_spec.specs.State.{Links, Queues, NodeState, routing_of, is_host, leads_to}
use Rattle.plan_eval_settle.specs.declared.settling.Settled.{Settled}
use Rattle.node_core_spec.specs.Visits.{visit_at, settled_at}
use Rattle.packet_frame.specs.Spelled.{numbered_frame}
use Rattle.node_core_spec.specs.Node.{NodeStep, stepped_node, queue_room, has_room, lane_room, lane_with, queue_push, drop_act, mark, takes_as, stamped_as, stamped_step, take_first, packet_sending}
use Rattle.node_core_spec.specs.Node.{advert_sending, visit_sends, tick_sends, send_act, send_queues, sends_acts, sends_queues, handled_acts, visit_acts, visit_step, next_serial, injected_packet}
use Rattle.node_core_spec.specs.Node.{inject_step, forward_by, forward_step, packet_step, advert_step, frame_step, arrived_read, arrive_step, next_tick, tick_step, take_from, take_step}
use Rattle.node_core_spec.specs.Counts.{only, is_family, act_sum, act_granted, act_injections, queues_sum, frame_one, taken_sum}
use Rattle.node_core_spec.proofs.CountLaws.{act_sum-nil, act_sum-cons, act_sum-append, queue_sum-push, queue_sum-cons, queues_sum-set}
use Rattle.node_core_spec.proofs.VisitLaws.{settled_keeps}
use Rattle.node_core_spec.proofs.Staying.{StepStays, StampedStays, visited_stays, stamped_stays, arrive_stays, tick_stays, take_stays}

-- ---- counts of injections

abbrev is_injected : Act → Bool
is_injected (Injected f bound) = true
is_injected _ = false

-- a count of injections alone
abbrev OnlyInjects : (Act → ℕ) → Type 0
OnlyInjects c = (a : Act) → is_injected a ≡ false → c a ≡ 0

module _ (c : Act → ℕ) (z : OnlyInjects c) where
  act_cases : (t : Bool) (a b : Act) → c a ≡ 0 → c b ≡ 0 → c (cond t a b) ≡ 0
  act_cases true a b x y = x
  act_cases false a b x y = y

  -- a frame to be queued injects nothing
  record Quiet (s : Sending) : Type 0 where
    queued : c s.queued ≡ 0
    dropped : c s.dropped ≡ 0
    spent : c s.spent ≡ 0

  quiet_packet : (m : Option Stamp) (s : Sent) → Quiet (packet_sending m s)
  quiet_packet m s = record {
    queued = z (Queued s.dev s.packet.family (s.packet.bound - 1)) refl;
    dropped = z (Dropped reason.QueueFull s.packet.family s.packet.bound) refl;
    spent = z (Dropped reason.LinkSpent s.packet.family s.packet.bound) refl;
  }

  quiet_packets : (m : Option Stamp) (ss : List Sent) → All Quiet (map (packet_sending m) ss)
  quiet_packets m [] = All-nil Quiet
  quiet_packets m (s ∷ ss) = All-cons Quiet (packet_sending m s) (map (packet_sending m) ss) (quiet_packet m s) (quiet_packets m ss)

  quiet_adverts : (m : Option Stamp) (a : Advert) (links : Links) → All Quiet (map (advert_sending m a) links)
  quiet_adverts m a [] = All-nil Quiet
  quiet_adverts m a (l ∷ ls) =
      All-cons Quiet (advert_sending m a l) (map (advert_sending m a) ls)
      (record { queued = z (AdvertQueued l.1) refl; dropped = z (AdvertDropped l.1) refl; spent = z (AdvertSpent l.1) refl }) (quiet_adverts m a ls)

  drop_none : (o : Option TxQueue) (s : Sending) → Quiet s → c (drop_act o s) ≡ 0
  drop_none None s q = q.dropped
  drop_none (Some lane) s q = act_cases (lane_room lane) _ _ q.spent q.dropped

  send_none : (queues : Queues) (s : Sending) → Quiet s → c (send_act queues s) ≡ 0
  unfolding send_act
  send_none queues s q = act_cases (has_room queues s.dev s.frame) _ _ q.queued (drop_none (slice_get queues s.dev.0) s q)

  sends_none : (queues : Queues) (ss : List Sending) → All Quiet ss → act_sum c (sends_acts queues ss) ≡ 0
  unfolding sends_acts
  sends_none queues [] q = act_sum-nil c
  sends_none queues (s ∷ ss) q =
      omega (arith, act_sum-cons c (send_act queues s) (sends_acts (send_queues queues s) ss), send_none queues s (All-head Quiet s ss q), sends_none (send_queues queues s) ss (All-tail Quiet s ss q))

  notes_none : (ns : List Note) → act_sum c (map Noted ns) ≡ 0
  notes_none [] = act_sum-nil c
  notes_none (n ∷ ns) = omega (arith, act_sum-cons c (Noted n) (map Noted ns), z (Noted n) refl, notes_none ns)

  handled_none : (g : Family) (h : Option Name) (bound : ℕ) → act_sum c (handled_acts g h bound) ≡ 0
  handled_none g None bound = act_sum-nil c
  handled_none g (Some n) bound = omega (arith, act_sum-cons c (Handled g n bound) [], act_sum-nil c, z (Handled g n bound) refl)

  visit_none : (m : Option Stamp) (queues : Queues) (p : Packet) (left : ℕ) (s : Settled) → act_sum c (visit_acts m queues p left s) ≡ 0
  unfolding visit_acts visit_sends
  visit_none m queues p left s =
      let v = s.visit in
      let ended = Ended p.family v.outcome v.evals v.left in
      let handled = handled_acts p.family s.handled left in
      let sent = sends_acts queues (map (packet_sending m) v.outbox) in
      omega (
        arith,
        act_sum-append c (map Noted v.notes) (ended ∷ (handled ++ sent)),
        act_sum-cons c ended (handled ++ sent),
        act_sum-append c handled sent,
        notes_none v.notes,
        z ended refl,
        handled_none p.family s.handled left,
        sends_none queues (map (packet_sending m) v.outbox) (quiet_packets m v.outbox),
      )

  visited_count : (act : Act) (node : NodeState) (p : Packet) → act_sum c (visit_step (act ∷ []) node p).acts ≡ c act
  unfolding visit_step
  visited_count act node p =
      let left = (visit_at node p).left in
      let s = settled_at node p in
      omega (arith, act_sum-append c (act ∷ []) (visit_acts (mark node) node.queues p left s), act_sum-cons c act [], act_sum-nil c, visit_none (mark node) node.queues p left s)

  step_cases : (t : Bool) (a b : NodeStep) → act_sum c a.acts ≡ 0 → act_sum c b.acts ≡ 0 → act_sum c (cond t a b).acts ≡ 0
  step_cases true a b x y = x
  step_cases false a b x y = y

  two_none : (a b : Act) → c a ≡ 0 → c b ≡ 0 → act_sum c (a ∷ b ∷ []) ≡ 0
  two_none a b x y = omega (arith, act_sum-cons c a (b ∷ []), act_sum-cons c b [], act_sum-nil c)

  by_none : (node : NodeState) (d : Dev) (p : Packet) (o : Hop) → act_sum c (forward_by node d p o).acts ≡ 0
  unfolding forward_by
  by_none node d p (To host over) = two_none _ _ (z (Arrived d) refl) (send_none node.queues (packet_sending (mark node) (record { dev = over; packet = p })) (quiet_packet (mark node) (record { dev = over; packet = p })))
  by_none node d p NoService = two_none _ _ (z (Arrived d) refl) (z (Dropped reason.NoService p.family p.bound) refl)
  by_none node d p NoRoute = two_none _ _ (z (Arrived d) refl) (z (Dropped reason.NoRoute p.family p.bound) refl)

  forward_none : (node : NodeState) (d : Dev) (p : Packet) → act_sum c (forward_step node d p).acts ≡ 0
  unfolding forward_step
  forward_none node d p = step_cases (p.bound == 0) _ _ (two_none _ _ (z (Arrived d) refl) (z (Dropped reason.NoBound p.family 0) refl)) (by_none node d p (hop (all_routes (routing_of node)) p.route node.here p.dest))

  packet_none : (node : NodeState) (d : Dev) (p : Packet) → act_sum c (packet_step node d p).acts ≡ 0
  unfolding packet_step
  packet_none node d p = step_cases (is_host p.dest node.here) _ _ (visited_count (Arrived d) node p ∙ z (Arrived d) refl) (forward_none node d p)

  advert_none : (node : NodeState) (d : Dev) (a : Advert) → act_sum c (advert_step node d a).acts ≡ 0
  unfolding advert_step
  advert_none node d a = step_cases (leads_to node.neighbours d a.host) _ _ (two_none _ _ (z (Arrived d) refl) (z (Heard d) refl)) (two_none _ _ (z (Arrived d) refl) (z Misplaced refl))

  frame_none : (node : NodeState) (d : Dev) (x : PlainFrame) → act_sum c (frame_step node d x).acts ≡ 0
  frame_none node d (PlainFrame.Packet p) = packet_none node d p
  frame_none node d (PlainFrame.Advert a) = advert_none node d a
  frame_none node d (PlainFrame.Ask bound chunk) = two_none _ _ (z (Arrived d) refl) (z Misplaced refl)

  as_none : (node : NodeState) (d : Dev) (x : PlainStamped) (t : Took) → act_sum c (stamped_as node d x t).acts ≡ 0
  as_none node d x Fresh = frame_none node d x.frame
  as_none node d x Repeated = two_none _ _ (z (Arrived d) refl) (z (Stale Repeated (what_of x.frame)) refl)
  as_none node d x TooOld = two_none _ _ (z (Arrived d) refl) (z (Stale TooOld (what_of x.frame)) refl)

  stamped_none : (node : NodeState) (d : Dev) (x : PlainStamped) → act_sum c (stamped_step node d x).acts ≡ 0
  unfolding stamped_step
  stamped_none node d x = as_none node d x (takes_as node.seen d x.stamp)

  arrived_none : (node : NodeState) (d : Dev) (r : Result PlainStamped FrameFault) → act_sum c (arrived_read node d r).acts ≡ 0
  arrived_none node d (Ok x) = stamped_none node d x
  arrived_none node d (Err e) = two_none _ _ (z (Arrived d) refl) (z (Bad e) refl)

  arrive_none : (node : NodeState) (d : Dev) (bytes : List ℕ) → act_sum c (arrive_step node d bytes).acts ≡ 0
  unfolding arrive_step
  arrive_none node d bytes = arrived_none node d (read_by node.version bytes)

  tick_none : (node : NodeState) → act_sum c (tick_step node).acts ≡ 0
  unfolding tick_step tick_sends
  tick_none node =
      let a = own_advert (routing_of node) in
      let m = mark node in
      let acts = sends_acts node.queues (map (advert_sending m a) node.neighbours) in
      omega (arith, act_sum-cons c (Ticked (next_tick node.now)) acts, z (Ticked (next_tick node.now)) refl, sends_none node.queues (map (advert_sending m a) node.neighbours) (quiet_adverts m a node.neighbours))

  take_first_none : (node : NodeState) (d : Dev) (n : ℕ) (queue : List PlainStamped) → act_sum c (take_first node d n queue).acts ≡ 0
  take_first_none node d n [] = act_sum-nil c
  take_first_none node d n (x ∷ queue) = omega (arith, act_sum-cons c (Taken d (what_of x.frame)) [], act_sum-nil c, z (Taken d (what_of x.frame)) refl)

  take_from_none : (node : NodeState) (d : Dev) (o : Option TxQueue) → act_sum c (take_from node d o).acts ≡ 0
  take_from_none node d None = act_sum-nil c
  take_from_none node d (Some lane) = take_first_none node d lane.number lane.frames

  take_none : (node : NodeState) (d : Dev) → act_sum c (take_step node d).acts ≡ 0
  unfolding take_step
  take_none node d = take_from_none node d (slice_get node.queues d.0)

module _ (f : Family) where
  granted_injects : OnlyInjects (act_granted f)
  granted_injects (Injected g b) e = absurd cc
  granted_injects (Arrived d) e = refl
  granted_injects Asked e = refl
  granted_injects (Noted n) e = refl
  granted_injects (Ended g o v l) e = refl
  granted_injects (Handled g n b) e = refl
  granted_injects (Queued d g b) e = refl
  granted_injects (Dropped r g b) e = refl
  granted_injects (Bad r) e = refl
  granted_injects Misplaced e = refl
  granted_injects (AdvertQueued d) e = refl
  granted_injects (AdvertDropped d) e = refl
  granted_injects (AdvertSpent d) e = refl
  granted_injects (Stale t w) e = refl
  granted_injects (Heard d) e = refl
  granted_injects (Ticked n) e = refl
  granted_injects (Taken d w) e = refl
  granted_injects SerialsSpent e = refl
  granted_injects NoMemory e = refl

  injections_injects : OnlyInjects (act_injections f)
  injections_injects (Injected g b) e = absurd cc
  injections_injects (Arrived d) e = refl
  injections_injects Asked e = refl
  injections_injects (Noted n) e = refl
  injections_injects (Ended g o v l) e = refl
  injections_injects (Handled g n b) e = refl
  injections_injects (Queued d g b) e = refl
  injections_injects (Dropped r g b) e = refl
  injections_injects (Bad r) e = refl
  injections_injects Misplaced e = refl
  injections_injects (AdvertQueued d) e = refl
  injections_injects (AdvertDropped d) e = refl
  injections_injects (AdvertSpent d) e = refl
  injections_injects (Stale t w) e = refl
  injections_injects (Heard d) e = refl
  injections_injects (Ticked n) e = refl
  injections_injects (Taken d w) e = refl
  injections_injects SerialsSpent e = refl
  injections_injects NoMemory e = refl

  -- ---- whether a node may yet give this family

  unfoldable pub may_give : NodeState → ℕ
  may_give node = cond ((node.here.0 == f.source.0) && nat_le node.serial f.serial) 1 0

  -- a node with the same host and serial number
  same_gives : (old new : NodeState) → new.here ≡ old.here → new.serial ≡ old.serial → may_give new ≡ may_give old
  unfolding may_give
  same_gives old new h s = ap (λ x. cond ((x.0 == f.source.0) && nat_le new.serial f.serial) 1 0) h ∙ ap (λ n. cond ((old.here.0 == f.source.0) && nat_le n f.serial) 1 0) s

  given_law : (h fh s fs : ℕ) → cond ((fh == h) && (fs == s)) 1 0 + cond ((h == fh) && nat_le (s + 1) fs) 1 0 ≤ cond ((h == fh) && nat_le s fs) 1 0
  given_law h fh s fs = grind (arith, nat_tests)

  one_given : (node : NodeState) → only f (record { source = node.here; serial = node.serial }) 1 + may_give (next_serial node) ≤ may_give node
  unfolding only is_family may_give
  one_given node = given_law node.here.0 f.source.0 node.serial f.serial

  pub only_limit : (g : Family) (bound : ℕ) → bound ≤ 65535 → only f g bound ≤ 65535 * only f g 1
  unfolding only
  only_limit g bound h = elim (is_family f g) as (λ t. cond t bound 0 ≤ 65535 * cond t 1 0) [ true ↦ omega arith | false ↦ omega arith ]

  -- a step gives this family at most once, and only where it might; and at most 65,535 with it
  pub record StepGives (old : NodeState) (step : NodeStep) : Type 0 where
    pub once : act_sum (act_injections f) step.acts + may_give step.node ≤ may_give old
    pub limit : act_sum (act_granted f) step.acts ≤ 65535 * act_sum (act_injections f) step.acts

  inject_cases : (t : Bool) (node : NodeState) (chunk : Chunk) (bound : ℕ) (handler : Option Name) → bound ≤ 65535
      → StepGives node (cond t (stepped_node ([] ++ SerialsSpent ∷ []) None node) (visit_step ([] ++ Injected (record { source = node.here; serial = node.serial }) bound ∷ []) (next_serial node) (injected_packet node chunk bound handler)))
  inject_cases true node chunk bound handler h = record {
    once = omega (arith, act_sum-cons (act_injections f) SerialsSpent [], act_sum-nil (act_injections f));
    limit = omega (arith, act_sum-cons (act_granted f) SerialsSpent [], act_sum-nil (act_granted f));
  }
  inject_cases false node chunk bound handler h =
      let g : Family = record { source = node.here; serial = node.serial } in
      let act = Injected g bound in
      let p = injected_packet node chunk bound handler in
      let injected = visited_count (act_injections f) injections_injects act (next_serial node) p in
      let paid = visited_count (act_granted f) granted_injects act (next_serial node) p in
      let s = visited_stays (act ∷ []) (next_serial node) p in
      let same = same_gives (next_serial node) (visit_step (act ∷ []) (next_serial node) p).node s.node.here s.serial in
      record { once = omega (arith, injected, same, one_given node); limit = omega (arith, injected, paid, only_limit g bound h) }

  pub inject_gives : (node : NodeState) (chunk : Chunk) (bound : ℕ) (handler : Option Name) → bound ≤ 65535 → StepGives node (inject_step [] node chunk bound handler)
  unfolding inject_step
  inject_gives node chunk bound handler h = inject_cases (node.serial == 18446744073709551615) node chunk bound handler h

  stamped_stays_gives : (node : NodeState) (step : NodeStep) → StampedStays node step → act_sum (act_injections f) step.acts ≡ 0 → act_sum (act_granted f) step.acts ≡ 0 → StepGives node step
  stamped_stays_gives node step s i g = record { once = omega (arith, i, same_gives node step.node s.node.here s.serial); limit = omega (arith, g) }

  stays_gives : (node : NodeState) (step : NodeStep) → StepStays node step → act_sum (act_injections f) step.acts ≡ 0 → act_sum (act_granted f) step.acts ≡ 0 → StepGives node step
  stays_gives node step s i g = record { once = omega (arith, i, same_gives node step.node s.node.here s.serial); limit = omega (arith, g) }

  pub stamped_gives : (node : NodeState) (d : Dev) (x : PlainStamped) → StepGives node (stamped_step node d x)
  stamped_gives node d x = stamped_stays_gives node (stamped_step node d x) (stamped_stays node d x) (stamped_none (act_injections f) injections_injects node d x) (stamped_none (act_granted f) granted_injects node d x)

  pub arrive_gives : (node : NodeState) (d : Dev) (bytes : List ℕ) → StepGives node (arrive_step node d bytes)
  arrive_gives node d bytes = stamped_stays_gives node (arrive_step node d bytes) (arrive_stays node d bytes) (arrive_none (act_injections f) injections_injects node d bytes) (arrive_none (act_granted f) granted_injects node d bytes)

  pub tick_gives : (node : NodeState) → StepGives node (tick_step node)
  tick_gives node = stays_gives node (tick_step node) (tick_stays node) (tick_none (act_injections f) injections_injects node) (tick_none (act_granted f) granted_injects node)

  pub take_gives : (node : NodeState) (d : Dev) → StepGives node (take_step node d)
  take_gives node d = stays_gives node (take_step node d) (take_stays node d) (take_none (act_injections f) injections_injects node d) (take_none (act_granted f) granted_injects node d)

  -- ---- no packet of this family is queued where none was and none came

  abbrev pub count_in : Queues → ℕ
  count_in queues = queues_sum (frame_one f) queues

  room_stays : (t : Bool) (queues : Queues) (s : Sending) (lane : TxQueue) → slice_get queues s.dev.0 ≡ Some lane → frame_one f s.frame.frame ≡ 0 → count_in queues ≡ 0
      → count_in (cond t (queue_push queues s.dev s.frame (Some lane)) queues) ≡ 0
  room_stays true queues s lane e h q = omega (arith, queues_sum-set (frame_one f) queues s.dev.0 lane (lane_with lane s.frame) e, queue_sum-push (frame_one f) lane.frames (numbered_frame lane.number s.frame))
  room_stays false queues s lane e h q = q

  place_stays : (o : Option TxQueue) (queues : Queues) (s : Sending) → slice_get queues s.dev.0 ≡ o → frame_one f s.frame.frame ≡ 0 → count_in queues ≡ 0
      → count_in (cond (queue_room o s.frame) (queue_push queues s.dev s.frame o) queues) ≡ 0
  place_stays None queues s e h q = q
  place_stays (Some lane) queues s e h q = room_stays (queue_room (Some lane) s.frame) queues s lane e h q

  send_adds : (queues : Queues) (s : Sending) → frame_one f s.frame.frame ≡ 0 → count_in queues ≡ 0 → count_in (send_queues queues s) ≡ 0
  unfolding send_queues has_room
  send_adds queues s h q = place_stays (slice_get queues s.dev.0) queues s refl h q

  abbrev NotOf : Sending → Type 0
  NotOf s = frame_one f s.frame.frame ≡ 0

  sends_add : (queues : Queues) (ss : List Sending) → All NotOf ss → count_in queues ≡ 0 → count_in (sends_queues queues ss) ≡ 0
  unfolding sends_queues
  sends_add queues [] a q = q
  sends_add queues (s ∷ ss) a q = sends_add (send_queues queues s) ss (All-tail NotOf s ss a) (send_adds queues s (All-head NotOf s ss a) q)

  packets_of : (m : Option Stamp) (g : Family) (ss : List Sent) → only f g 1 ≡ 0 → All (λ s. s.packet.family ≡ g) ss → All NotOf (map (packet_sending m) ss)
  packets_of m g [] h a = All-nil NotOf
  packets_of m g (s ∷ ss) h a =
      let e : frame_one f (packet_sending m s).frame.frame ≡ only f g 1 = ap (λ x. only f x 1) (All-head (λ s. s.packet.family ≡ g) s ss a) in
      All-cons NotOf (packet_sending m s) (map (packet_sending m) ss) (e ∙ h) (packets_of m g ss h (All-tail (λ s. s.packet.family ≡ g) s ss a))

  adverts_of : (m : Option Stamp) (a : Advert) (links : Links) → All NotOf (map (advert_sending m a) links)
  adverts_of m a [] = All-nil NotOf
  adverts_of m a (l ∷ ls) = All-cons NotOf (advert_sending m a l) (map (advert_sending m a) ls) refl (adverts_of m a ls)

  visited_adds : (acts : List Act) (node : NodeState) (p : Packet) → only f p.family 1 ≡ 0 → count_in node.queues ≡ 0 → count_in (visit_step acts node p).node.queues ≡ 0
  unfolding visit_step visit_sends
  visited_adds acts node p h q =
      let m = mark node in
      let outbox = (settled_at node p).visit.outbox in
      sends_add node.queues (map (packet_sending m) outbox) (packets_of m p.family outbox h (settled_keeps node p).family) q

  adds_cases : (t : Bool) (a b : NodeStep) → count_in a.node.queues ≡ 0 → count_in b.node.queues ≡ 0 → count_in (cond t a b).node.queues ≡ 0
  adds_cases true a b x y = x
  adds_cases false a b x y = y

  inject_adds_cases : (t : Bool) (node : NodeState) (chunk : Chunk) (bound : ℕ) (handler : Option Name) → count_in node.queues ≡ 0
      → act_sum (act_injections f) (cond t (stepped_node ([] ++ SerialsSpent ∷ []) None node)
      (visit_step ([] ++ Injected (record { source = node.here; serial = node.serial }) bound ∷ []) (next_serial node) (injected_packet node chunk bound handler))).acts
      ≡ 0
      → count_in (cond t (stepped_node ([] ++ SerialsSpent ∷ []) None node)
      (visit_step ([] ++ Injected (record { source = node.here; serial = node.serial }) bound ∷ []) (next_serial node) (injected_packet node chunk bound handler))).node.queues
      ≡ 0
  inject_adds_cases true node chunk bound handler q z = q
  inject_adds_cases false node chunk bound handler q z =
      let g : Family = record { source = node.here; serial = node.serial } in
      let c = visited_count (act_injections f) injections_injects (Injected g bound) (next_serial node) (injected_packet node chunk bound handler) in
      visited_adds (Injected g bound ∷ []) (next_serial node) (injected_packet node chunk bound handler) (sym c ∙ z) q

  pub inject_adds : (node : NodeState) (chunk : Chunk) (bound : ℕ) (handler : Option Name) → count_in node.queues ≡ 0 → act_sum (act_injections f) (inject_step [] node chunk bound handler).acts ≡ 0
      → count_in (inject_step [] node chunk bound handler).node.queues ≡ 0
  unfolding inject_step
  inject_adds node chunk bound handler q z = inject_adds_cases (node.serial == 18446744073709551615) node chunk bound handler q z

  by_adds : (node : NodeState) (d : Dev) (p : Packet) (o : Hop) → only f p.family 1 ≡ 0 → count_in node.queues ≡ 0 → count_in (forward_by node d p o).node.queues ≡ 0
  unfolding forward_by
  by_adds node d p (To host over) h q = send_adds node.queues (packet_sending (mark node) (record { dev = over; packet = p })) h q
  by_adds node d p NoService h q = q
  by_adds node d p NoRoute h q = q

  forward_adds : (node : NodeState) (d : Dev) (p : Packet) → only f p.family 1 ≡ 0 → count_in node.queues ≡ 0 → count_in (forward_step node d p).node.queues ≡ 0
  unfolding forward_step
  forward_adds node d p h q = adds_cases (p.bound == 0) _ _ q (by_adds node d p (hop (all_routes (routing_of node)) p.route node.here p.dest) h q)

  packet_adds : (node : NodeState) (d : Dev) (p : Packet) → only f p.family 1 ≡ 0 → count_in node.queues ≡ 0 → count_in (packet_step node d p).node.queues ≡ 0
  unfolding packet_step
  packet_adds node d p h q = adds_cases (is_host p.dest node.here) _ _ (visited_adds _ node p h q) (forward_adds node d p h q)

  advert_adds : (node : NodeState) (d : Dev) (a : Advert) → count_in node.queues ≡ 0 → count_in (advert_step node d a).node.queues ≡ 0
  unfolding advert_step
  advert_adds node d a q = adds_cases (leads_to node.neighbours d a.host) _ _ q q

  pub frame_adds : (node : NodeState) (d : Dev) (x : PlainFrame) → frame_one f x ≡ 0 → count_in node.queues ≡ 0 → count_in (frame_step node d x).node.queues ≡ 0
  frame_adds node d (PlainFrame.Packet p) h q = packet_adds node d p h q
  frame_adds node d (PlainFrame.Advert a) h q = advert_adds node d a q
  frame_adds node d (PlainFrame.Ask bound chunk) h q = q

  as_adds : (node : NodeState) (d : Dev) (x : PlainStamped) (t : Took) → frame_one f x.frame ≡ 0 → count_in node.queues ≡ 0 → count_in (stamped_as node d x t).node.queues ≡ 0
  as_adds node d x Fresh h q = frame_adds node d x.frame h q
  as_adds node d x Repeated h q = q
  as_adds node d x TooOld h q = q

  pub stamped_adds : (node : NodeState) (d : Dev) (x : PlainStamped) → frame_one f x.frame ≡ 0 → count_in node.queues ≡ 0 → count_in (stamped_step node d x).node.queues ≡ 0
  unfolding stamped_step
  stamped_adds node d x h q = as_adds node d x (takes_as node.seen d x.stamp) h q

  -- how many packets of this family bytes are accepted as
  abbrev pub came_one : Result PlainStamped FrameFault → ℕ
  came_one (Ok x) = frame_one f x.frame
  came_one (Err e) = 0

  arrived_adds : (node : NodeState) (d : Dev) (r : Result PlainStamped FrameFault) → came_one r ≡ 0 → count_in node.queues ≡ 0 → count_in (arrived_read node d r).node.queues ≡ 0
  arrived_adds node d (Ok x) h q = stamped_adds node d x h q
  arrived_adds node d (Err e) h q = q

  pub arrive_adds : (node : NodeState) (d : Dev) (bytes : List ℕ) → came_one (read_by node.version bytes) ≡ 0 → count_in node.queues ≡ 0 → count_in (arrive_step node d bytes).node.queues ≡ 0
  unfolding arrive_step
  arrive_adds node d bytes h q = arrived_adds node d (read_by node.version bytes) h q

  pub tick_adds : (node : NodeState) → count_in node.queues ≡ 0 → count_in (tick_step node).node.queues ≡ 0
  unfolding tick_step tick_sends
  tick_adds node q = sends_add node.queues (map (advert_sending (mark node) (own_advert (routing_of node))) node.neighbours) (adverts_of (mark node) (own_advert (routing_of node)) node.neighbours) q

  take_first_adds : (node : NodeState) (d : Dev) (n : ℕ) (queue : List PlainStamped) → slice_get node.queues d.0 ≡ Some (record { frames = queue; number = n }) → count_in node.queues ≡ 0
      → count_in (take_first node d n queue).node.queues + taken_sum (frame_one f) (take_first node d n queue).frame ≡ 0
  take_first_adds node d n [] e q = omega arith
  take_first_adds node d n (x ∷ queue) e q =
      let old : TxQueue = record { frames = x ∷ queue; number = n } in
      let new : TxQueue = record { frames = queue; number = n } in
      omega (arith, queues_sum-set (frame_one f) node.queues d.0 old new e, queue_sum-cons (frame_one f) x queue)

  take_from_adds : (node : NodeState) (d : Dev) (o : Option TxQueue) → slice_get node.queues d.0 ≡ o → count_in node.queues ≡ 0
      → count_in (take_from node d o).node.queues + taken_sum (frame_one f) (take_from node d o).frame ≡ 0
  take_from_adds node d None e q = omega arith
  take_from_adds node d (Some lane) e q = take_first_adds node d lane.number lane.frames e q

  pub take_adds : (node : NodeState) (d : Dev) → count_in node.queues ≡ 0 → count_in (take_step node d).node.queues + taken_sum (frame_one f) (take_step node d).frame ≡ 0
  unfolding take_step
  take_adds node d q = take_from_adds node d (slice_get node.queues d.0) refl q
