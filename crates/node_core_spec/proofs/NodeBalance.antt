-- Each step of a node is in balance.
use Rattle.std.proofs.Common.{◌≡◌, ℕ, ◌+◌, ◌<◌, Bool, true, false, cond, List, [], ◌∷◌, ◌++◌, refl, sym, ap, arith}
use Rattle.std.specs.Prelude.{sum_by, map, All, slice_get, ◌==◌, Option, Some, None, Result, Ok, Err}
use Rattle.std.proofs.lemmas.List.Sums.{sum_by-cons}
use Rattle.std.proofs.lemmas.List.Elements.{All-nil, All-cons, All-head, All-tail}
use Rattle.std.proofs.lemmas.Bool.Decides.{nat_tests}
use Rattle.plan_base.specs.declared.name.Name.{Name}
use Rattle.plan_base.specs.declared.ids.Host.{Host}
use Rattle.plan_base.specs.declared.ids.Dev.{Dev}
use Rattle.plan_base.specs.declared.ids.Family.{Family}
use Rattle.plan_base.specs.declared.tree.Chunk.{Chunk}
use Rattle.plan_base.specs.declared.tree.Packet.{Packet}
use Rattle.packet_frame.specs.declared.frame.PlainFrame.{PlainFrame}
use Rattle.packet_frame.specs.declared.frame.PlainStamped.{PlainStamped}
use Rattle.plan_base.specs.declared.stamp.Stamp.{Stamp}
use Rattle.replay_window.specs.declared.window.Took.{Took}
use Rattle.replay_window.specs.declared.window.Took.TheVariants.{Fresh, Repeated, TooOld}
use Rattle.node_core_spec.specs.declared.acts.TxQueue.{TxQueue}
use Rattle.packet_frame.specs.declared.fault.FrameFault.{FrameFault}
use Rattle.packet_frame.specs.Decoding.{read_by}
use Rattle.plan_meaning.specs.declared.sent.Sent.{Sent}
use Rattle.service_api.specs.declared.advert.Advert.{Advert}
use Rattle.service_api.specs.declared.answer.Note.{Note}
use Rattle.network_config.specs.declared.event.Event.{Event}
use Rattle.network_config.specs.declared.event.Event.TheVariants as event
use Rattle.dv_routing.specs.Routing.{all_routes, own_advert}
use Rattle.service_api.specs.declared.router.Hop.{Hop}
use Rattle.service_api.specs.declared.router.Hop.TheVariants.{To, NoService, NoRoute}
use Rattle.service_api.specs.Routes.{hop}
use Rattle.node_core_spec.specs.declared.acts.Act.{Act}
use Rattle.node_core_spec.specs.declared.acts.Act.TheVariants.{Injected, Arrived, Asked, Noted, Ended, Handled, Dropped, Bad, Misplaced, Heard, Stale, Ticked, Taken, SerialsSpent}
use Rattle.node_core_spec.specs.declared.acts.Reason.TheVariants as reason
use Rattle.node_core_spec.specs.declared.acts.Sending.{Sending}
use Rattle.packet_frame.specs.Spelled.{what_of}
use Rattle.node_core_spec.specs.State.{Links, Queues, NodeState, routing_of, is_host, leads_to}
use Rattle.plan_eval_settle.specs.declared.settling.Settled.{Settled}
use Rattle.node_core_spec.specs.Visits.{visit_at, settled_at, VisitKeeps}
use Rattle.packet_frame.specs.Spelled.{numbered_frame}
use Rattle.node_core_spec.specs.Node.{NodeStep, stepped_node, queue_room, has_room, lane_room, lane_with, queue_push, drop_act, mark, takes_as, noting, stamped_as, stamped_step, asked_plain}
use Rattle.node_core_spec.specs.Node.{take_first, packet_sending, advert_sending, visit_sends, tick_sends, send_act, send_queues, sends_acts, sends_queues, with_queues, handled_acts, visit_acts}
use Rattle.node_core_spec.specs.Node.{visit_step, injected_packet, next_serial, inject_step, only_acts, forward_by, forward_step, packet_step, hearing, advert_step, frame_step, arrived_read}
use Rattle.node_core_spec.specs.Node.{arrive_step, asked_read, control_step, next_tick, tick_step, take_from, take_step, node_step}
use Rattle.node_core_spec.specs.Counts.{only, act_sum, act_granted, act_hops, act_evals, act_left, act_stale, what_left, packet_live, frame_live, queues_sum, node_live, if_fresh, if_stale}
use Rattle.node_core_spec.specs.Counts.{stamped_came, stamped_stale, bytes_came, bytes_stale, came, stale, StepBalances}
use Rattle.node_core_spec.proofs.CountLaws.{only-plus, only_hop, act_sum-nil, act_sum-cons, act_sum-append, queue_sum-push, queue_sum-cons, queues_sum-set, dropped_left, sent_live}
use Rattle.node_core_spec.proofs.VisitLaws.{settled_keeps}

module _ (f : Family) where
  -- a frame that is to be queued: queued or dropped, it pays and leaves what its packet had
  record SendingBalance (s : Sending) : Type 0 where
    queued_granted : act_granted f s.queued ≡ 0
    dropped_granted : act_granted f s.dropped ≡ 0
    queued_evals : act_evals f s.queued ≡ 0
    dropped_evals : act_evals f s.dropped ≡ 0
    dropped_hops : act_hops f s.dropped ≡ 0
    queued_stale : act_stale f s.queued ≡ 0
    dropped_stale : act_stale f s.dropped ≡ 0
    spent_granted : act_granted f s.spent ≡ 0
    spent_evals : act_evals f s.spent ≡ 0
    spent_hops : act_hops f s.spent ≡ 0
    spent_stale : act_stale f s.spent ≡ 0
    spent_left : act_left f s.spent ≡ act_left f s.dropped
    moved : act_hops f s.queued + act_left f s.queued + frame_live f s.frame.frame ≡ act_left f s.dropped

  packet_moves : (m : Option Stamp) (s : Sent) → 0 < s.packet.bound → SendingBalance (packet_sending m s)
  packet_moves m s h = record {
    queued_granted = refl;
    dropped_granted = refl;
    queued_evals = refl;
    dropped_evals = refl;
    dropped_hops = refl;
    queued_stale = refl;
    dropped_stale = refl;
    spent_granted = refl;
    spent_evals = refl;
    spent_hops = refl;
    spent_stale = refl;
    spent_left = refl;
    moved = omega (arith, only_hop f s.packet.family s.packet.bound h);
  }

  advert_moves : (m : Option Stamp) (a : Advert) (link : Host × Dev) → SendingBalance (advert_sending m a link)
  advert_moves m a link = record {
    queued_granted = refl;
    dropped_granted = refl;
    queued_evals = refl;
    dropped_evals = refl;
    dropped_hops = refl;
    queued_stale = refl;
    dropped_stale = refl;
    spent_granted = refl;
    spent_evals = refl;
    spent_hops = refl;
    spent_stale = refl;
    spent_left = refl;
    moved = refl;
  }

  abbrev live_in : Queues → ℕ
  live_in queues = queues_sum (frame_live f) queues

  -- one act of a frame, with the queues before and after
  record SendBalance (act : Act) (old new came : ℕ) : Type 0 where
    granted : act_granted f act ≡ 0
    evals : act_evals f act ≡ 0
    stale : act_stale f act ≡ 0
    moved : act_hops f act + act_left f act + new ≡ old + came

  dropped_balance : (queues : Queues) (s : Sending) → SendingBalance s → SendBalance s.dropped (live_in queues) (live_in queues) (dropped_left f s)
  dropped_balance queues s h = record { granted = h.dropped_granted; evals = h.dropped_evals; stale = h.dropped_stale; moved = omega (arith, h.dropped_hops) }

  drop_balances : (t : Bool) (queues : Queues) (s : Sending) → SendingBalance s → SendBalance (cond t s.spent s.dropped) (live_in queues) (live_in queues) (dropped_left f s)
  drop_balances true queues s h = record { granted = h.spent_granted; evals = h.spent_evals; stale = h.spent_stale; moved = omega (arith, h.spent_hops, h.spent_left) }
  drop_balances false queues s h = dropped_balance queues s h

  room_balance : (t : Bool) (queues : Queues) (s : Sending) (lane : TxQueue) → slice_get queues s.dev.0 ≡ Some lane → SendingBalance s
      → SendBalance (cond t s.queued (drop_act (Some lane) s)) (live_in queues) (live_in (cond t (queue_push queues s.dev s.frame (Some lane)) queues)) (dropped_left f s)
  room_balance true queues s lane e h = record {
    granted = h.queued_granted;
    evals = h.queued_evals;
    stale = h.queued_stale;
    moved = omega (arith, queues_sum-set (frame_live f) queues s.dev.0 lane (lane_with lane s.frame) e, queue_sum-push (frame_live f) lane.frames (numbered_frame lane.number s.frame), h.moved);
  }
  room_balance false queues s lane e h = drop_balances (lane_room lane) queues s h

  place_balance : (o : Option TxQueue) (queues : Queues) (s : Sending) → slice_get queues s.dev.0 ≡ o → SendingBalance s
      → SendBalance (cond (queue_room o s.frame) s.queued (drop_act o s)) (live_in queues) (live_in (cond (queue_room o s.frame) (queue_push queues s.dev s.frame o) queues)) (dropped_left f s)
  place_balance None queues s e h = dropped_balance queues s h
  place_balance (Some lane) queues s e h = room_balance (queue_room (Some lane) s.frame) queues s lane e h

  send_balance : (queues : Queues) (s : Sending) → SendingBalance s → SendBalance (send_act queues s) (live_in queues) (live_in (send_queues queues s)) (dropped_left f s)
  unfolding send_act send_queues has_room
  send_balance queues s h = place_balance (slice_get queues s.dev.0) queues s refl h

  -- the acts of some frames
  record SendsBalance (acts : List Act) (old new came : ℕ) : Type 0 where
    granted : act_sum (act_granted f) acts ≡ 0
    evals : act_sum (act_evals f) acts ≡ 0
    stale : act_sum (act_stale f) acts ≡ 0
    moved : act_sum (act_hops f) acts + act_sum (act_left f) acts + new ≡ old + came

  sends_balance : (queues : Queues) (ss : List Sending) → All SendingBalance ss
      → SendsBalance (sends_acts queues ss) (live_in queues) (live_in (sends_queues queues ss)) (sum_by (dropped_left f) ss)
  unfolding sends_acts sends_queues
  sends_balance queues [] h = record {
    granted = act_sum-nil (act_granted f);
    evals = act_sum-nil (act_evals f);
    stale = act_sum-nil (act_stale f);
    moved = omega (arith, act_sum-nil (act_hops f), act_sum-nil (act_left f));
  }
  sends_balance queues (s ∷ ss) h =
      let one = send_balance queues s (All-head SendingBalance s ss h) in
      let more = sends_balance (send_queues queues s) ss (All-tail SendingBalance s ss h) in
      record {
        granted = omega (arith, one.granted, more.granted, act_sum-cons (act_granted f) (send_act queues s) (sends_acts (send_queues queues s) ss));
        evals = omega (arith, one.evals, more.evals, act_sum-cons (act_evals f) (send_act queues s) (sends_acts (send_queues queues s) ss));
        stale = omega (arith, one.stale, more.stale, act_sum-cons (act_stale f) (send_act queues s) (sends_acts (send_queues queues s) ss));
        moved = omega (
          arith,
          one.moved,
          more.moved,
          act_sum-cons (act_hops f) (send_act queues s) (sends_acts (send_queues queues s) ss),
          act_sum-cons (act_left f) (send_act queues s) (sends_acts (send_queues queues s) ss),
          sum_by-cons (dropped_left f) s ss,
        );
      }

  packets_move : (m : Option Stamp) (outbox : List Sent) → All (λ s. 0 < s.packet.bound) outbox → All SendingBalance (map (packet_sending m) outbox)
  packets_move m [] h = All-nil SendingBalance
  packets_move m (s ∷ ss) h = All-cons SendingBalance (packet_sending m s) (map (packet_sending m) ss) (packet_moves m s (All-head (λ s. 0 < s.packet.bound) s ss h))
      (packets_move m ss (All-tail (λ s. 0 < s.packet.bound) s ss h))

  -- a tick's adverts count nothing
  adverts_move : (m : Option Stamp) (a : Advert) (links : Links) → All SendingBalance (map (advert_sending m a) links)
  adverts_move m a [] = All-nil SendingBalance
  adverts_move m a (l ∷ ls) = All-cons SendingBalance (advert_sending m a l) (map (advert_sending m a) ls) (advert_moves m a l) (adverts_move m a ls)

  adverts_none : (m : Option Stamp) (a : Advert) (links : Links) → sum_by (dropped_left f) (map (advert_sending m a) links) ≡ 0
  adverts_none m a [] = refl
  adverts_none m a (l ∷ ls) = omega (arith, sum_by-cons (dropped_left f) (advert_sending m a l) (map (advert_sending m a) ls), adverts_none m a ls)

  notes_zero : (c : Act → ℕ) → ((n : Note) → c (Noted n) ≡ 0) → (notes : List Note) → act_sum c (map Noted notes) ≡ 0
  notes_zero c z [] = act_sum-nil c
  notes_zero c z (n ∷ ns) = omega (arith, act_sum-cons c (Noted n) (map Noted ns), z n, notes_zero c z ns)

  handled_zero : (c : Act → ℕ) (g : Family) (h : Option Name) (bound : ℕ) → ((n : Name) → c (Handled g n bound) ≡ 0) → act_sum c (handled_acts g h bound) ≡ 0
  handled_zero c g None bound z = act_sum-nil c
  handled_zero c g (Some n) bound z = omega (arith, act_sum-cons c (Handled g n bound) [], act_sum-nil c, z n)

  -- the acts of a visit
  record VisitBalance (acts : List Act) (old new came : ℕ) : Type 0 where
    granted : act_sum (act_granted f) acts ≡ 0
    stale : act_sum (act_stale f) acts ≡ 0
    moved : act_sum (act_hops f) acts + act_sum (act_evals f) acts + act_sum (act_left f) acts + new ≡ old + came

  visit_balance : (m : Option Stamp) (queues : Queues) (p : Packet) (left : ℕ) (s : Settled) → VisitKeeps p s.visit
      → VisitBalance (visit_acts m queues p left s) (live_in queues) (live_in (sends_queues queues (visit_sends m s.visit))) (packet_live f p)
  unfolding visit_acts visit_sends
  visit_balance m queues p left s k =
      let v = s.visit in
      let notes = map Noted v.notes in
      let ended = Ended p.family v.outcome v.evals v.left in
      let handled = handled_acts p.family s.handled left in
      let sends = sends_acts queues (map (packet_sending m) v.outbox) in
      let sent = handled ++ sends in
      let b = sends_balance queues (map (packet_sending m) v.outbox) (packets_move m v.outbox k.paid_each) in
      let live = sent_live m f p.family v.outbox k.family in
      let total = sum_by (λ (s : Sent). s.packet.bound) v.outbox in
      let parts = ap (only f p.family) k.balance in
      record {
        granted = omega (
          arith,
          b.granted,
          notes_zero (act_granted f) (λ n. refl) v.notes,
          act_sum-append (act_granted f) notes (ended ∷ sent),
          act_sum-cons (act_granted f) ended sent,
          act_sum-append (act_granted f) handled sends,
          handled_zero (act_granted f) p.family s.handled left (λ n. refl),
        );
        stale = omega (
          arith,
          b.stale,
          notes_zero (act_stale f) (λ n. refl) v.notes,
          act_sum-append (act_stale f) notes (ended ∷ sent),
          act_sum-cons (act_stale f) ended sent,
          act_sum-append (act_stale f) handled sends,
          handled_zero (act_stale f) p.family s.handled left (λ n. refl),
        );
        moved = omega (
          arith,
          b.evals,
          b.moved,
          live,
          parts,
          only-plus f p.family (v.evals + v.left) total,
          only-plus f p.family v.evals v.left,
          notes_zero (act_hops f) (λ n. refl) v.notes,
          act_sum-append (act_hops f) notes (ended ∷ sent),
          act_sum-cons (act_hops f) ended sent,
          act_sum-append (act_hops f) handled sends,
          handled_zero (act_hops f) p.family s.handled left (λ n. refl),
          notes_zero (act_evals f) (λ n. refl) v.notes,
          act_sum-append (act_evals f) notes (ended ∷ sent),
          act_sum-cons (act_evals f) ended sent,
          act_sum-append (act_evals f) handled sends,
          handled_zero (act_evals f) p.family s.handled left (λ n. refl),
          notes_zero (act_left f) (λ n. refl) v.notes,
          act_sum-append (act_left f) notes (ended ∷ sent),
          act_sum-cons (act_left f) ended sent,
          act_sum-append (act_left f) handled sends,
          handled_zero (act_left f) p.family s.handled left (λ n. refl),
        );
      }

  -- acts before a visit, which grant or bring in the packet's bound
  record BeginsBalance (acts : List Act) (arrived came : ℕ) : Type 0 where
    stale : act_sum (act_stale f) acts ≡ 0
    hops : act_sum (act_hops f) acts ≡ 0
    evals : act_sum (act_evals f) acts ≡ 0
    left : act_sum (act_left f) acts ≡ 0
    granted : act_sum (act_granted f) acts + arrived ≡ came

  one_begins : (act : Act) (arrived came : ℕ) → act_stale f act ≡ 0 → act_hops f act ≡ 0 → act_evals f act ≡ 0 → act_left f act ≡ 0 → act_granted f act + arrived ≡ came → BeginsBalance (act ∷ []) arrived came
  one_begins act arrived came t h e l g = record {
    stale = omega (arith, t, act_sum-cons (act_stale f) act [], act_sum-nil (act_stale f));
    hops = omega (arith, h, act_sum-cons (act_hops f) act [], act_sum-nil (act_hops f));
    evals = omega (arith, e, act_sum-cons (act_evals f) act [], act_sum-nil (act_evals f));
    left = omega (arith, l, act_sum-cons (act_left f) act [], act_sum-nil (act_left f));
    granted = omega (arith, g, act_sum-cons (act_granted f) act [], act_sum-nil (act_granted f));
  }

  -- acts that count nothing, and one more
  more_begins : (before : List Act) (act : Act) (came : ℕ) → BeginsBalance before 0 0 → BeginsBalance (act ∷ []) 0 came → BeginsBalance (before ++ act ∷ []) 0 came
  more_begins before act came b o = record {
    stale = omega (arith, b.stale, o.stale, act_sum-append (act_stale f) before (act ∷ []));
    hops = omega (arith, b.hops, o.hops, act_sum-append (act_hops f) before (act ∷ []));
    evals = omega (arith, b.evals, o.evals, act_sum-append (act_evals f) before (act ∷ []));
    left = omega (arith, b.left, o.left, act_sum-append (act_left f) before (act ∷ []));
    granted = omega (arith, b.granted, o.granted, act_sum-append (act_granted f) before (act ∷ []));
  }

  none_begins : BeginsBalance [] 0 0
  none_begins = record { stale = act_sum-nil (act_stale f); hops = act_sum-nil (act_hops f); evals = act_sum-nil (act_evals f); left = act_sum-nil (act_left f); granted = omega (arith, act_sum-nil (act_granted f)) }

  visited_balances : (acts : List Act) (arrived : ℕ) (node : NodeState) (p : Packet) → BeginsBalance acts arrived (packet_live f p) → StepBalances f arrived 0 node (visit_step acts node p)
  unfolding visit_step
  visited_balances acts arrived node p g =
      let left = (visit_at node p).left in
      let more = visit_acts (mark node) node.queues p left (settled_at node p) in
      let b = visit_balance (mark node) node.queues p left (settled_at node p) (settled_keeps node p) in
      record {
        stale = omega (arith, b.stale, g.stale, act_sum-append (act_stale f) acts more);
        law = omega (
          arith,
          b.granted,
          b.moved,
          g.granted,
          g.hops,
          g.evals,
          g.left,
          act_sum-append (act_granted f) acts more,
          act_sum-append (act_hops f) acts more,
          act_sum-append (act_evals f) acts more,
          act_sum-append (act_left f) acts more,
        );
      }

  -- acts that count nothing, with nothing changed
  plain_balances : (acts : List Act) (arrived : ℕ) (old new : NodeState) → node_live f old ≡ node_live f new → BeginsBalance acts arrived 0 → StepBalances f arrived 0 old (stepped_node acts None new)
  plain_balances acts arrived old new e b = record { law = omega (arith, b.hops, b.evals, b.left, b.granted); stale = b.stale }

  same_node_balances : (arrived : ℕ) (old new : NodeState) (step : NodeStep) → node_live f old ≡ node_live f new → StepBalances f arrived 0 new step → StepBalances f arrived 0 old step
  same_node_balances arrived old new step e b = record { law = omega (arith, b.law); stale = b.stale }

  inject_cases : (t : Bool) (before : List Act) (node : NodeState) (chunk : Chunk) (bound : ℕ) (handler : Option Name) → BeginsBalance before 0 0
      → StepBalances f 0 0 node (cond t (stepped_node (before ++ SerialsSpent ∷ []) None node)
      (visit_step (before ++ Injected (record { source = node.here; serial = node.serial }) bound ∷ []) (next_serial node) (injected_packet node chunk bound handler)))
  inject_cases true before node chunk bound handler b = plain_balances (before ++ SerialsSpent ∷ []) 0 node node refl (more_begins before SerialsSpent 0 b (one_begins SerialsSpent 0 0 refl refl refl refl refl))
  inject_cases false before node chunk bound handler b =
      let act = Injected (record { source = node.here; serial = node.serial }) bound in
      let p = injected_packet node chunk bound handler in
      same_node_balances 0 node (next_serial node) _ refl
      (visited_balances (before ++ act ∷ []) 0 (next_serial node) p (more_begins before act (packet_live f p) b (one_begins act 0 (packet_live f p) refl refl refl refl (omega arith))))

  inject_balances : (before : List Act) (node : NodeState) (chunk : Chunk) (bound : ℕ) (handler : Option Name) → BeginsBalance before 0 0 → StepBalances f 0 0 node (inject_step before node chunk bound handler)
  unfolding inject_step
  inject_balances before node chunk bound handler b = inject_cases (node.serial == 18446744073709551615) before node chunk bound handler b

  pub inject_event_balances : (node : NodeState) (chunk : Chunk) (bound : ℕ) (handler : Option Name) → StepBalances f 0 0 node (inject_step [] node chunk bound handler)
  inject_event_balances node chunk bound handler = inject_balances [] node chunk bound handler none_begins

  -- two acts that count nothing
  only_balances : (first act : Act) (old new : NodeState) → node_live f old ≡ node_live f new → BeginsBalance (first ∷ []) 0 0 → BeginsBalance (act ∷ []) 0 0 → StepBalances f 0 0 old (only_acts first act new)
  only_balances first act old new e x y = plain_balances (first ∷ act ∷ []) 0 old new e (more_begins (first ∷ []) act 0 x y)

  -- an arrival, and then one act that queues or drops the packet
  two_acts : (d : Dev) (act : Act) (node : NodeState) (queues : Queues) (p : Packet) → SendBalance act (live_in node.queues) (live_in queues) (packet_live f p)
      → StepBalances f (packet_live f p) 0 node (stepped_node (Arrived d ∷ act ∷ []) None (with_queues node queues))
  two_acts d act node queues p b = record {
    stale = omega (arith, b.stale, act_sum-cons (act_stale f) (Arrived d) (act ∷ []), act_sum-cons (act_stale f) act [], act_sum-nil (act_stale f));
    law = omega (
      arith,
      b.granted,
      b.evals,
      b.moved,
      act_sum-cons (act_granted f) (Arrived d) (act ∷ []),
      act_sum-cons (act_granted f) act [],
      act_sum-nil (act_granted f),
      act_sum-cons (act_hops f) (Arrived d) (act ∷ []),
      act_sum-cons (act_hops f) act [],
      act_sum-nil (act_hops f),
      act_sum-cons (act_evals f) (Arrived d) (act ∷ []),
      act_sum-cons (act_evals f) act [],
      act_sum-nil (act_evals f),
      act_sum-cons (act_left f) (Arrived d) (act ∷ []),
      act_sum-cons (act_left f) act [],
      act_sum-nil (act_left f),
    );
  }

  -- a drop leaves the packet's bound
  drop_balance : (act : Act) (live : ℕ) (p : Packet) → act_stale f act ≡ 0 → act_granted f act ≡ 0 → act_evals f act ≡ 0 → act_hops f act ≡ 0 → act_left f act ≡ packet_live f p → SendBalance act live live (packet_live f p)
  drop_balance act live p t g e h l = record { granted = g; evals = e; stale = t; moved = omega arith }

  forward_by_balances : (node : NodeState) (d : Dev) (p : Packet) (o : Hop) → 0 < p.bound → StepBalances f (packet_live f p) 0 node (forward_by node d p o)
  unfolding forward_by
  forward_by_balances node d p (To host over) h =
      let s = packet_sending (mark node) (record { dev = over; packet = p }) in
      two_acts d (send_act node.queues s) node (send_queues node.queues s) p (send_balance node.queues s (packet_moves (mark node) (record { dev = over; packet = p }) h))
  forward_by_balances node d p NoService h = two_acts d (Dropped reason.NoService p.family p.bound) node node.queues p (drop_balance _ (live_in node.queues) p refl refl refl refl refl)
  forward_by_balances node d p NoRoute h = two_acts d (Dropped reason.NoRoute p.family p.bound) node node.queues p (drop_balance _ (live_in node.queues) p refl refl refl refl refl)

  forward_cases : (t : Bool) (o : Hop) (node : NodeState) (d : Dev) (p : Packet) → (t ≡ true → p.bound ≡ 0) → (t ≡ false → 0 < p.bound)
      → StepBalances f (packet_live f p) 0 node (cond t (only_acts (Arrived d) (Dropped reason.NoBound p.family 0) node) (forward_by node d p o))
  forward_cases true o node d p z h = two_acts d (Dropped reason.NoBound p.family 0) node node.queues p (drop_balance _ (live_in node.queues) p refl refl refl refl (sym (ap (only f p.family) (z refl))))
  forward_cases false o node d p z h = forward_by_balances node d p o (h refl)

  zero_true : (n : ℕ) → (n == 0) ≡ true → n ≡ 0
  zero_true n e = grind (arith, nat_tests)

  zero_false : (n : ℕ) → (n == 0) ≡ false → 0 < n
  zero_false n e = grind (arith, nat_tests)

  forward_balances : (node : NodeState) (d : Dev) (p : Packet) → StepBalances f (packet_live f p) 0 node (forward_step node d p)
  unfolding forward_step
  forward_balances node d p = forward_cases (p.bound == 0) (hop (all_routes (routing_of node)) p.route node.here p.dest) node d p (zero_true p.bound) (zero_false p.bound)

  packet_cases : (t : Bool) (node : NodeState) (d : Dev) (p : Packet) → StepBalances f (packet_live f p) 0 node (cond t (visit_step (Arrived d ∷ []) node p) (forward_step node d p))
  packet_cases true node d p = visited_balances (Arrived d ∷ []) (packet_live f p) node p (one_begins (Arrived d) (packet_live f p) (packet_live f p) refl refl refl refl (omega arith))
  packet_cases false node d p = forward_balances node d p

  packet_balances : (node : NodeState) (d : Dev) (p : Packet) → StepBalances f (packet_live f p) 0 node (packet_step node d p)
  unfolding packet_step
  packet_balances node d p = packet_cases (is_host p.dest node.here) node d p

  begins_none : (act : Act) → act_stale f act ≡ 0 → act_hops f act ≡ 0 → act_evals f act ≡ 0 → act_left f act ≡ 0 → act_granted f act ≡ 0 → BeginsBalance (act ∷ []) 0 0
  begins_none act t h e l g = one_begins act 0 0 t h e l (omega (arith, g))

  advert_cases : (t : Bool) (node : NodeState) (d : Dev) (a : Advert)
      → StepBalances f 0 0 node (cond t (only_acts (Arrived d) (Heard d) (hearing node d a)) (only_acts (Arrived d) Misplaced node))
  advert_cases true node d a = only_balances (Arrived d) (Heard d) node (hearing node d a) refl (begins_none (Arrived d) refl refl refl refl refl) (begins_none (Heard d) refl refl refl refl refl)
  advert_cases false node d a = only_balances (Arrived d) Misplaced node node refl (begins_none (Arrived d) refl refl refl refl refl) (begins_none Misplaced refl refl refl refl refl)

  advert_balances : (node : NodeState) (d : Dev) (a : Advert) → StepBalances f 0 0 node (advert_step node d a)
  unfolding advert_step
  advert_balances node d a = advert_cases (leads_to node.neighbours d a.host) node d a

  -- a frame arrives
  pub frame_balances : (node : NodeState) (d : Dev) (x : PlainFrame) → StepBalances f (frame_live f x) 0 node (frame_step node d x)
  frame_balances node d (PlainFrame.Packet p) = packet_balances node d p
  frame_balances node d (PlainFrame.Advert a) = advert_balances node d a
  frame_balances node d (PlainFrame.Ask bound chunk) = only_balances (Arrived d) Misplaced node node refl (begins_none (Arrived d) refl refl refl refl refl) (begins_none Misplaced refl refl refl refl refl)

  -- what is stale changes nothing and leaves nothing
  stale_balances : (node : NodeState) (d : Dev) (t : Took) (x : PlainFrame) → StepBalances f 0 (frame_live f x) node (only_acts (Arrived d) (Stale t (what_of x)) node)
  stale_balances node d t x =
      let act = Stale t (what_of x) in
      record {
        law = omega (
          arith,
          act_sum-cons (act_granted f) (Arrived d) (act ∷ []),
          act_sum-cons (act_granted f) act [],
          act_sum-nil (act_granted f),
          act_sum-cons (act_hops f) (Arrived d) (act ∷ []),
          act_sum-cons (act_hops f) act [],
          act_sum-nil (act_hops f),
          act_sum-cons (act_evals f) (Arrived d) (act ∷ []),
          act_sum-cons (act_evals f) act [],
          act_sum-nil (act_evals f),
          act_sum-cons (act_left f) (Arrived d) (act ∷ []),
          act_sum-cons (act_left f) act [],
          act_sum-nil (act_left f),
        );
        stale = omega (arith, what_is x, act_sum-cons (act_stale f) (Arrived d) (act ∷ []), act_sum-cons (act_stale f) act [], act_sum-nil (act_stale f));
      }
    where
      what_is : (x : PlainFrame) → what_left f (what_of x) ≡ frame_live f x
      what_is (PlainFrame.Packet p) = refl
      what_is (PlainFrame.Advert a) = refl
      what_is (PlainFrame.Ask bound chunk) = refl

  noting_balances : (node : NodeState) (d : Dev) (stamp : Option Stamp) (step : NodeStep) (arrived : ℕ) → StepBalances f arrived 0 node step → StepBalances f arrived 0 node (noting node d stamp step)
  noting_balances node d stamp step arrived b = record { law = b.law; stale = b.stale }

  as_balances : (node : NodeState) (d : Dev) (x : PlainStamped) (t : Took) → StepBalances f (if_fresh t (frame_live f x.frame)) (if_stale t (frame_live f x.frame)) node (stamped_as node d x t)
  as_balances node d x Fresh = noting_balances node d x.stamp _ (frame_live f x.frame) (frame_balances node d x.frame)
  as_balances node d x Repeated = stale_balances node d Repeated x.frame
  as_balances node d x TooOld = stale_balances node d TooOld x.frame

  pub stamped_balances : (node : NodeState) (d : Dev) (x : PlainStamped) → StepBalances f (stamped_came f node d x) (stamped_stale f node d x) node (stamped_step node d x)
  unfolding stamped_step
  stamped_balances node d x = as_balances node d x (takes_as node.seen d x.stamp)

  arrived_balances : (node : NodeState) (d : Dev) (r : Result PlainStamped FrameFault) → StepBalances f (bytes_came f node d r) (bytes_stale f node d r) node (arrived_read node d r)
  arrived_balances node d (Ok x) = stamped_balances node d x
  arrived_balances node d (Err e) = only_balances (Arrived d) (Bad e) node node refl (begins_none (Arrived d) refl refl refl refl refl) (begins_none (Bad e) refl refl refl refl refl)

  pub arrive_balances : (node : NodeState) (d : Dev) (bytes : List ℕ)
      → StepBalances f (bytes_came f node d (read_by node.version bytes)) (bytes_stale f node d (read_by node.version bytes)) node (arrive_step node d bytes)
  unfolding arrive_step
  arrive_balances node d bytes = arrived_balances node d (read_by node.version bytes)

  misplaced_balances : (node : NodeState) → StepBalances f 0 0 node (only_acts Asked Misplaced node)
  misplaced_balances node = only_balances Asked Misplaced node node refl (begins_none Asked refl refl refl refl refl) (begins_none Misplaced refl refl refl refl refl)

  plain_asked : (node : NodeState) (x : PlainFrame) → StepBalances f 0 0 node (asked_plain node x)
  plain_asked node (PlainFrame.Ask bound chunk) = inject_balances (Asked ∷ []) node chunk bound None (begins_none Asked refl refl refl refl refl)
  plain_asked node (PlainFrame.Packet p) = misplaced_balances node
  plain_asked node (PlainFrame.Advert a) = misplaced_balances node

  asked_balances : (node : NodeState) (r : Result PlainStamped FrameFault) → StepBalances f 0 0 node (asked_read node r)
  asked_balances node (Ok x) = plain_asked node x.frame
  asked_balances node (Err e) = only_balances Asked (Bad e) node node refl (begins_none Asked refl refl refl refl refl) (begins_none (Bad e) refl refl refl refl refl)

  pub control_balances : (node : NodeState) (bytes : List ℕ) → StepBalances f 0 0 node (control_step node bytes)
  unfolding control_step
  control_balances node bytes = asked_balances node (read_by node.version bytes)

  pub tick_balances : (node : NodeState) → StepBalances f 0 0 node (tick_step node)
  unfolding tick_step tick_sends
  tick_balances node =
      let a = own_advert (routing_of node) in
      let sends = map (advert_sending (mark node) a) node.neighbours in
      let b = sends_balance node.queues sends (adverts_move (mark node) a node.neighbours) in
      let acts = sends_acts node.queues sends in
      let act = Ticked (next_tick node.now) in
      record {
        stale = omega (arith, b.stale, act_sum-cons (act_stale f) act acts);
        law = omega (
          arith,
          b.granted,
          b.evals,
          b.moved,
          adverts_none (mark node) a node.neighbours,
          act_sum-cons (act_granted f) act acts,
          act_sum-cons (act_hops f) act acts,
          act_sum-cons (act_evals f) act acts,
          act_sum-cons (act_left f) act acts,
        );
      }

  take_first_balances : (node : NodeState) (d : Dev) (n : ℕ) (queue : List PlainStamped) → slice_get node.queues d.0 ≡ Some (record { frames = queue; number = n })
      → StepBalances f 0 0 node (take_first node d n queue)
  take_first_balances node d n [] e = plain_balances [] 0 node node refl none_begins
  take_first_balances node d n (x ∷ queue) e =
      let b = begins_none (Taken d (what_of x.frame)) refl refl refl refl refl in
      let old : TxQueue = record { frames = x ∷ queue; number = n } in
      let new : TxQueue = record { frames = queue; number = n } in
      record {
        law = omega (arith, b.hops, b.evals, b.left, b.granted, queues_sum-set (frame_live f) node.queues d.0 old new e, queue_sum-cons (frame_live f) x queue);
        stale = b.stale;
      }

  take_from_balances : (node : NodeState) (d : Dev) (o : Option TxQueue) → slice_get node.queues d.0 ≡ o → StepBalances f 0 0 node (take_from node d o)
  take_from_balances node d None e = plain_balances [] 0 node node refl none_begins
  take_from_balances node d (Some lane) e = take_first_balances node d lane.number lane.frames e

  pub take_balances : (node : NodeState) (d : Dev) → StepBalances f 0 0 node (take_step node d)
  unfolding take_step
  take_balances node d = take_from_balances node d (slice_get node.queues d.0) refl

  -- each step of a node is in balance
  pub step_balances : (node : NodeState) (e : Event) → StepBalances f (came f node e) (stale f node e) node (node_step node e)
  step_balances node (event.Inject chunk bound handler) = inject_event_balances node chunk bound handler
  step_balances node (event.Frame d bytes) = arrive_balances node d bytes
  step_balances node (event.Control bytes) = control_balances node bytes
  step_balances node event.Tick = tick_balances node
  step_balances node (event.Take d) = take_balances node d
