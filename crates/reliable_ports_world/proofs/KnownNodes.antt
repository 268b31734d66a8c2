-- Steps of a node whose packets carry known chunks.
use Rattle.std.proofs.Common.{◌≡◌, ℕ, Bool, true, false, cond, if◌then◌else◌, List, [], ◌∷◌, ◌++◌, map, Option, Some, None, refl}
use Rattle.std.specs.Prelude.{◌==◌, slice_get, All}
use Rattle.std.specs.List.{AllByRecursion}
use Rattle.std.proofs.lemmas.List.Elements.{All-nil, All-cons}
use Rattle.plan_base.specs.declared.ids.Dev.{Dev}
use Rattle.plan_base.specs.declared.tree.Chunk.{Chunk}
use Rattle.plan_base.specs.declared.tree.Packet.{Packet}
use Rattle.plan_base.specs.declared.tree.Value.{Value}
use Rattle.packet_frame.specs.declared.frame.PlainFrame.{PlainFrame}
use Rattle.packet_frame.specs.declared.frame.PlainStamped.{PlainStamped}
use Rattle.plan_base.specs.declared.stamp.Stamp.{Stamp}
use Rattle.replay_window.specs.declared.window.Took.{Took}
use Rattle.replay_window.specs.declared.window.Took.TheVariants.{Fresh, Repeated, TooOld}
use Rattle.plan_base.specs.declared.name.Name.{Name}
use Rattle.plan_base.specs.declared.ids.Family.{Family}
use Rattle.service_api.specs.declared.advert.Advert.{Advert}
use Rattle.service_api.specs.declared.answer.Note.{Note}
use Rattle.service_api.specs.declared.router.Hop.{Hop}
use Rattle.service_api.specs.declared.router.Hop.TheVariants.{To, NoService, NoRoute}
use Rattle.service_api.specs.declared.ctx.Ctx.{Ctx}
use Rattle.service_api.specs.Routes.{hop}
use Rattle.service_api.specs.Services.{ServiceState, begun_now}
use Rattle.dv_routing.specs.Routing.{all_routes, own_advert}
use Rattle.plan_meaning.specs.declared.sent.Sent.{Sent}
use Rattle.plan_meaning.specs.declared.stop.EvalStop.TheVariants as stop
use Rattle.plan_meaning.specs.declared.outcome.Visit.{Visit}
use Rattle.plan_meaning.specs.Run.{After, gave, stopped}
use Rattle.plan_meaning.specs.Visit.{allowance, begun_state}
use Rattle.node_core_spec.specs.declared.acts.Act.{Act}
use Rattle.node_core_spec.specs.declared.acts.Act.TheVariants.{Arrived, Noted, Ended, Dropped, Injected, SerialsSpent, Heard, Misplaced}
use Rattle.node_core_spec.specs.declared.acts.Reason.TheVariants as reason
use Rattle.node_core_spec.specs.declared.acts.Sending.{Sending}
use Rattle.node_core_spec.specs.declared.acts.TxQueue.{TxQueue}
use Rattle.node_core_spec.specs.State.{Links, Queues, NodeState, routing_of, is_host, leads_to}
use Rattle.plan_eval_settle.specs.declared.settling.Settled.{Settled}
use Rattle.plan_eval_settle.specs.Settles.{handed_packet, telling_by, with_telling, visit_settled}
use Rattle.node_core_spec.specs.Visits.{evaluated_packet, visit_end, visit_of, services_end, services_after, around, visit_at, settled_at}
use Rattle.node_core_spec.specs.Node.{send_act, send_queues, sends_acts, has_room, packet_sending, visit_sends, handled_acts, visit_acts, visit_step, inject_step, next_serial, injected_packet}
use Rattle.node_core_spec.specs.Node.{forward_by, forward_step, packet_step, advert_step, frame_step, drop_act, lane_room, mark, takes_as, stamped_as, stamped_step, tick_step, tick_sends}
use Rattle.node_core_spec.specs.Node.{advert_sending, take_step, take_first, take_from, only_acts, hearing}
use Rattle.node_core_spec.proofs.Keeping.{Whatever, send_keeps, sends_keep, took}
use Rattle.reliable_ports_world.specs.Only.{Allowed, MaySend}
use Rattle.reliable_ports_world.specs.Visits.{EndsGood}
use Rattle.reliable_ports_world.specs.Known.{IsClosed, FrameKnown, StampedKnown, NodeKnown, ActKnown, StepKnown}

pub all_append : {X : Type 0} (P : X → Type 0) (xs ys : List X) → AllByRecursion P xs → AllByRecursion P ys → AllByRecursion P (xs ++ ys)
all_append P [] ys h k = k
all_append P (x ∷ xs) ys h k = (h.0, all_append P xs ys h.1 k)

module _ (a : Allowed) (closed : IsClosed a) where
  -- ---- visits

  pub record VisitKnown (v : Visit) (services : ServiceState) : Type 0 where
    pub sends : AllByRecursion (MaySend a) v.outbox
    pub notes : AllByRecursion a.note v.notes
    pub offer : services.offer ≡ a.offer

  end_known : (bound : ℕ) (old : ServiceState) (r : After Value) → old.offer ≡ a.offer → EndsGood a (λ (v : Value). Unit {0}) r → VisitKnown (visit_end bound r) (services_end old r)
  end_known bound old (gave v s) o e = record { sends = e.0.sends; notes = e.0.notes; offer = e.0.offer }
  end_known bound old (stopped (stop.Raised x) s) o e = record { sends = e.sends; notes = e.notes; offer = e.offer }
  end_known bound old (stopped stop.WorkSpent s) o e = record { sends = tt; notes = tt; offer = o }
  end_known bound old (stopped stop.Wrong s) o e = record { sends = tt; notes = tt; offer = o }
  end_known bound old (stopped stop.NoMemory s) o e = record { sends = tt; notes = tt; offer = o }

  pub visit_known : (ctx : Ctx) (services : ServiceState) (p : Packet) → services.offer ≡ a.offer → a.chunk p.chunk → VisitKnown (visit_of ctx services p) (services_after ctx services p)
  unfolding visit_of services_after evaluated_packet
  visit_known ctx services p o k = end_known p.bound services (evaluated_packet ctx services p) o (closed p.chunk k (begun_state allowance ctx p.family services) (record { offer = o; sends = tt; notes = tt }))

  -- ---- sends

  abbrev Sends : Sending → Type 0
  Sends s = StampedKnown a s.frame

  -- a number changes nothing
  again : Whatever (StampedKnown a)
  again n x h = h

  sends_all : (m : Option Stamp) (ss : List Sent) → AllByRecursion (MaySend a) ss → All Sends (map (packet_sending m) ss)
  sends_all m [] h = All-nil Sends
  sends_all m (s ∷ ss) h = All-cons Sends (packet_sending m s) (map (packet_sending m) ss) h.0 (sends_all m ss h.1)

  -- the act of a frame that is to be queued is one of three
  one_act : (queues : Queues) (s : Sending) → ActKnown a s.queued → ActKnown a s.dropped → ActKnown a s.spent → ActKnown a (send_act queues s)
  unfolding send_act
  one_act queues s q d p = by (has_room queues s.dev s.frame) (slice_get queues s.dev.0)
    where
      full : (t : Bool) → ActKnown a (if t then s.spent else s.dropped)
      full true = p
      full false = d

      unsent : (o : Option TxQueue) → ActKnown a (drop_act o s)
      unsent None = d
      unsent (Some lane) = full (lane_room lane)

      by : (t : Bool) (o : Option TxQueue) → ActKnown a (if t then s.queued else drop_act o s)
      by true o = q
      by false o = unsent o

  send_act_known : (m : Option Stamp) (queues : Queues) (s : Sent) → ActKnown a (send_act queues (packet_sending m s))
  send_act_known m queues s = one_act queues (packet_sending m s) tt tt tt

  sends_acts_known : (m : Option Stamp) (queues : Queues) (ss : List Sent) → AllByRecursion (ActKnown a) (sends_acts queues (map (packet_sending m) ss))
  unfolding sends_acts
  sends_acts_known m queues [] = tt
  sends_acts_known m queues (s ∷ ss) = (send_act_known m queues s, sends_acts_known m (send_queues queues (packet_sending m s)) ss)

  notes_known : (ns : List Note) → AllByRecursion a.note ns → AllByRecursion (ActKnown a) (map Noted ns)
  notes_known [] h = tt
  notes_known (n ∷ ns) h = (h.0, notes_known ns h.1)

  -- the settled visit of a packet without a handler sends what the visit sent
  handed_known : (ss : List Sent) → AllByRecursion (MaySend a) ss → AllByRecursion (MaySend a) (map (handed_packet None) ss)
  handed_known [] h = tt
  handed_known (s ∷ ss) h = ((h.0.0, refl), handed_known ss h.1)

  told_known : (p : Packet) (ctx : Ctx) (v : Visit) (o : Option Name) → o ≡ None → AllByRecursion (MaySend a) v.outbox
      → AllByRecursion (MaySend a) (with_telling o v (telling_by p o ctx v.left v.outcome)).visit.outbox
  told_known p ctx v None e h = all_append (MaySend a) (map (handed_packet None) v.outbox) [] (handed_known v.outbox h) tt
  told_known p ctx v (Some n) e h = cc

  settled_known : (p : Packet) (ctx : Ctx) (v : Visit) → p.handler ≡ None → AllByRecursion (MaySend a) v.outbox → AllByRecursion (MaySend a) (visit_settled p ctx v).visit.outbox
  unfolding visit_settled
  settled_known p ctx v e h = told_known p ctx v p.handler e h

  settled_notes : (p : Packet) (ctx : Ctx) (v : Visit) → AllByRecursion a.note v.notes → AllByRecursion a.note (visit_settled p ctx v).visit.notes
  unfolding visit_settled
  settled_notes p ctx v h = h

  handled_known : (g : Family) (h : Option Name) (bound : ℕ) → AllByRecursion (ActKnown a) (handled_acts g h bound)
  handled_known g None bound = tt
  handled_known g (Some n) bound = (tt, tt)

  visit_acts_known : (m : Option Stamp) (queues : Queues) (p : Packet) (left : ℕ) (s : Settled) → AllByRecursion a.note s.visit.notes → AllByRecursion (ActKnown a) (visit_acts m queues p left s)
  unfolding visit_acts visit_sends
  visit_acts_known m queues p left s h =
      let v = s.visit in
      let handled = handled_acts p.family s.handled left in
      let sent = sends_acts queues (map (packet_sending m) v.outbox) in
      all_append (ActKnown a) (map Noted v.notes) (Ended p.family v.outcome v.evals v.left ∷ (handled ++ sent)) (notes_known v.notes h)
      (tt, all_append (ActKnown a) handled sent (handled_known p.family s.handled left) (sends_acts_known m queues v.outbox))

  -- ---- steps

  pub visited_known : (acts : List Act) (node : NodeState) (p : Packet) → AllByRecursion (ActKnown a) acts → a.chunk p.chunk × (p.handler ≡ None) → NodeKnown a node → StepKnown a (visit_step acts node p)
  unfolding visit_step visit_sends
  visited_known acts node p h k n =
      let v = visit_known (around node p) (begun_now node.services) p n.offer k.0 in
      let left = (visit_at node p).left in
      let s = settled_at node p in
      record {
        node = record {
          queues = sends_keep (StampedKnown a) again node.queues (map (packet_sending (mark node)) s.visit.outbox)
              (sends_all (mark node) s.visit.outbox (settled_known p (around node p) (visit_at node p) k.1 v.sends)) n.queues;
          offer = v.offer;
        };
        acts = all_append (ActKnown a) acts (visit_acts (mark node) node.queues p left s) h
            (visit_acts_known (mark node) node.queues p left s (settled_notes p (around node p) (visit_at node p) v.notes));
        frame = tt;
      }

  pub inject_known : (node : NodeState) (c : Chunk) (b : ℕ) (o : Option Name) → a.chunk c × (o ≡ None) → NodeKnown a node → StepKnown a (inject_step [] node c b o)
  unfolding inject_step
  inject_known node c b o k n = by (node.serial == 18446744073709551615)
    where
      by : (t : Bool)
          → StepKnown a (cond t (record { acts = SerialsSpent ∷ []; frame = None; node = node })
          (visit_step (Injected (record { source = node.here; serial = node.serial }) b ∷ []) (next_serial node) (injected_packet node c b o)))
      by true = record { node = n; acts = (tt, tt); frame = tt }
      by false = visited_known (Injected (record { source = node.here; serial = node.serial }) b ∷ []) (next_serial node) (injected_packet node c b o) (tt, tt) k (record { queues = n.queues; offer = n.offer })

  by_known : (node : NodeState) (d : Dev) (p : Packet) (h : Hop) → a.chunk p.chunk × (p.handler ≡ None) → NodeKnown a node → StepKnown a (forward_by node d p h)
  unfolding forward_by
  by_known node d p (To host over) k n = record {
    node = record { queues = send_keeps (StampedKnown a) again node.queues (packet_sending (mark node) (record { dev = over; packet = p })) k n.queues; offer = n.offer };
    acts = (tt, (send_act_known (mark node) node.queues (record { dev = over; packet = p }), tt));
    frame = tt;
  }
  by_known node d p NoService k n = record { node = n; acts = (tt, (tt, tt)); frame = tt }
  by_known node d p NoRoute k n = record { node = n; acts = (tt, (tt, tt)); frame = tt }

  pub packet_known : (node : NodeState) (d : Dev) (p : Packet) → a.chunk p.chunk × (p.handler ≡ None) → NodeKnown a node → StepKnown a (packet_step node d p)
  unfolding packet_step forward_step
  packet_known node d p k n = by (is_host p.dest node.here) (p.bound == 0)
    where
      by : (t u : Bool)
          → StepKnown a (cond t (visit_step (Arrived d ∷ []) node p)
          (cond u (record { acts = Arrived d ∷ Dropped reason.NoBound p.family 0 ∷ []; frame = None; node = node })
          (forward_by node d p (hop (all_routes (routing_of node)) p.route node.here p.dest))))
      by true u = visited_known (Arrived d ∷ []) node p (tt, tt) k n
      by false true = record { node = n; acts = (tt, (tt, tt)); frame = tt }
      by false false = by_known node d p (hop (all_routes (routing_of node)) p.route node.here p.dest) k n

  advert_known : (node : NodeState) (d : Dev) (x : Advert) → NodeKnown a node → StepKnown a (advert_step node d x)
  unfolding advert_step
  advert_known node d x n = by (leads_to node.neighbours d x.host)
    where
      by : (t : Bool) → StepKnown a (if t then only_acts (Arrived d) (Heard d) (hearing node d x) else only_acts (Arrived d) Misplaced node)
      by true = record { node = record { queues = n.queues; offer = n.offer }; acts = (tt, (tt, tt)); frame = tt }
      by false = record { node = n; acts = (tt, (tt, tt)); frame = tt }

  pub frame_known : (node : NodeState) (d : Dev) (x : PlainFrame) → FrameKnown a x → NodeKnown a node → StepKnown a (frame_step node d x)
  frame_known node d (PlainFrame.Packet p) k n = packet_known node d p k n
  frame_known node d (PlainFrame.Advert x) k n = advert_known node d x n
  frame_known node d (PlainFrame.Ask b c) k n = record { node = n; acts = (tt, (tt, tt)); frame = tt }

  -- a frame that is stale changes nothing
  as_known : (node : NodeState) (d : Dev) (x : PlainStamped) (t : Took) → StampedKnown a x → NodeKnown a node → StepKnown a (stamped_as node d x t)
  as_known node d x Fresh k n = let s = frame_known node d x.frame k n in record { node = record { queues = s.node.queues; offer = s.node.offer }; acts = s.acts; frame = s.frame }
  as_known node d x Repeated k n = record { node = n; acts = (tt, (tt, tt)); frame = tt }
  as_known node d x TooOld k n = record { node = n; acts = (tt, (tt, tt)); frame = tt }

  pub stamped_known : (node : NodeState) (d : Dev) (x : PlainStamped) → StampedKnown a x → NodeKnown a node → StepKnown a (stamped_step node d x)
  unfolding stamped_step
  stamped_known node d x k n = as_known node d x (takes_as node.seen d x.stamp) k n

  pub take_known : (node : NodeState) (d : Dev) → NodeKnown a node → StepKnown a (take_step node d)
  unfolding take_step
  take_known node d n = by (slice_get node.queues d.0) refl
    where
      first : (number : ℕ) (frames : List PlainStamped) → slice_get node.queues d.0 ≡ Some (record { frames = frames; number = number }) → StepKnown a (take_first node d number frames)
      first number [] e = record { node = n; acts = tt; frame = tt }
      first number (x ∷ queue) e =
          let t = took (StampedKnown a) node.queues d.0 number x queue e n.queues in
          record { node = record { queues = t.rest; offer = n.offer }; acts = (tt, tt); frame = t.frame }

      by : (o : Option TxQueue) → slice_get node.queues d.0 ≡ o → StepKnown a (take_from node d o)
      by None e = record { node = n; acts = tt; frame = tt }
      by (Some lane) e = first lane.number lane.frames e

  -- ---- ticks: adverts alone

  adverts_all : (m : Option Stamp) (x : Advert) (links : Links) → All Sends (map (advert_sending m x) links)
  adverts_all m x [] = All-nil Sends
  adverts_all m x (l ∷ ls) = All-cons Sends (advert_sending m x l) (map (advert_sending m x) ls) tt (adverts_all m x ls)

  advert_acts : (m : Option Stamp) (queues : Queues) (x : Advert) (links : Links) → AllByRecursion (ActKnown a) (sends_acts queues (map (advert_sending m x) links))
  unfolding sends_acts
  advert_acts m queues x [] = tt
  advert_acts m queues x (l ∷ ls) = (one_act queues (advert_sending m x l) tt tt tt, advert_acts m (send_queues queues (advert_sending m x l)) x ls)

  pub tick_known : (node : NodeState) → NodeKnown a node → StepKnown a (tick_step node)
  unfolding tick_step tick_sends
  tick_known node n = record {
    node = record {
      queues = sends_keep (StampedKnown a) again node.queues (map (advert_sending (mark node) (own_advert (routing_of node))) node.neighbours)
          (adverts_all (mark node) (own_advert (routing_of node)) node.neighbours) n.queues;
      offer = n.offer;
    };
    acts = (tt, advert_acts (mark node) node.queues (own_advert (routing_of node)) node.neighbours);
    frame = tt;
  }
