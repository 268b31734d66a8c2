-- A packet that arrives is never refused, and only a taking gives a frame.
use Rattle.std.proofs.Common.{◌≡◌, ℕ, Bool, true, false, not, ◌||◌, cond, if◌then◌else◌, List, [], ◌∷◌, ◌++◌, map, Option, Some, None, refl, sym, ap, ◌∙◌, true≢false}
use Rattle.std.specs.Prelude.{◌==◌, Result, Ok, Err, slice_get}
use Rattle.std.specs.List.{list_any}
use Rattle.plan_base.specs.declared.ids.Dev.{Dev}
use Rattle.plan_base.specs.declared.ids.Family.{Family}
use Rattle.plan_base.specs.declared.tree.Packet.{Packet}
use Rattle.packet_frame.specs.declared.frame.PlainFrame.{PlainFrame}
use Rattle.packet_frame.specs.declared.fault.FrameFault.{FrameFault}
use Rattle.packet_frame.specs.declared.frame.PlainStamped.{PlainStamped}
use Rattle.packet_frame.specs.Decoding.{read_by}
use Rattle.packet_frame.specs.Spelled.{IsOnItsWay}
use Rattle.plan_base.specs.declared.stamp.Stamp.{Stamp}
use Rattle.replay_window.specs.declared.window.Took.{Took}
use Rattle.replay_window.specs.declared.window.Took.TheVariants.{Fresh, Repeated, TooOld}
use Rattle.plan_base.specs.declared.name.Name.{Name}
use Rattle.service_api.specs.declared.answer.Note.{Note}
use Rattle.service_api.specs.declared.router.Hop.{Hop}
use Rattle.service_api.specs.declared.router.Hop.TheVariants.{To, NoService, NoRoute}
use Rattle.service_api.specs.Routes.{hop}
use Rattle.dv_routing.specs.Routing.{all_routes}
use Rattle.service_api.specs.declared.advert.Advert.{Advert}
use Rattle.plan_meaning.specs.declared.sent.Sent.{Sent}
use Rattle.network_config.specs.declared.event.Event.{Event}
use Rattle.network_config.specs.declared.event.Event.TheVariants as event
use Rattle.node_core_spec.specs.declared.acts.Act.{Act}
use Rattle.node_core_spec.specs.declared.acts.Act.TheVariants.{Arrived, Noted, Ended, Dropped, Asked}
use Rattle.node_core_spec.specs.declared.acts.Reason.TheVariants as reason
use Rattle.node_core_spec.specs.declared.acts.TxQueue.{TxQueue}
use Rattle.node_core_spec.specs.State.{Queues, NodeState, routing_of, is_host}
use Rattle.plan_eval_settle.specs.declared.settling.Settled.{Settled}
use Rattle.node_core_spec.specs.Visits.{visit_at, settled_at}
use Rattle.node_core_spec.specs.Node.{node_step, arrive_step, arrived_read, asked_plain, asked_read, drop_act, lane_room, mark, takes_as, stamped_as, stamped_step, control_step, packet_step}
use Rattle.node_core_spec.specs.Node.{forward_step, forward_by, frame_step, visit_step, handled_acts, visit_acts, visit_sends, sends_acts, send_act, send_queues, has_room, packet_sending}
use Rattle.node_core_spec.proofs.Staying.{inject_frame, arrive_frame, tick_frame}
use Rattle.node_core_spec.specs.Counts.{came, frame_live, if_fresh, bytes_came}
use Rattle.ledger_audit.specs.Runs.{is_refusal, is_accepted}

abbrev Clean : List Act → Type 0
Clean acts = list_any is_refusal acts ≡ false

or_both : (a b : Bool) → a ≡ false → b ≡ false → (a || b) ≡ false
or_both false b e f = f
or_both true b e f = absurd (true≢false e)

clean_append : (xs ys : List Act) → Clean xs → Clean ys → Clean (xs ++ ys)
clean_append [] ys a b = b
clean_append (x ∷ xs) ys a b = by (is_refusal x) a (λ c. clean_append xs ys c b)
  where
    by : (t : Bool) → (t || list_any is_refusal xs) ≡ false → (Clean xs → Clean (xs ++ ys)) → (t || list_any is_refusal (xs ++ ys)) ≡ false
    by false c r = r c
    by true c r = c

clean_notes : (ns : List Note) → Clean (map Noted ns)
clean_notes [] = refl
clean_notes (n ∷ ns) = clean_notes ns

clean_send : (m : Option Stamp) (queues : Queues) (s : Sent) → is_refusal (send_act queues (packet_sending m s)) ≡ false
unfolding send_act
clean_send m queues s = by (has_room queues (packet_sending m s).dev (packet_sending m s).frame) (slice_get queues (packet_sending m s).dev.0)
  where
    full : (t : Bool) → is_refusal (if t then (packet_sending m s).spent else (packet_sending m s).dropped) ≡ false
    full true = refl
    full false = refl

    unsent : (o : Option TxQueue) → is_refusal (drop_act o (packet_sending m s)) ≡ false
    unsent None = refl
    unsent (Some lane) = full (lane_room lane)

    by : (t : Bool) (o : Option TxQueue) → is_refusal (if t then (packet_sending m s).queued else drop_act o (packet_sending m s)) ≡ false
    by true o = refl
    by false o = unsent o

clean_sends : (m : Option Stamp) (queues : Queues) (ss : List Sent) → Clean (sends_acts queues (map (packet_sending m) ss))
unfolding sends_acts
clean_sends m queues [] = refl
clean_sends m queues (s ∷ ss) =
    or_both (is_refusal (send_act queues (packet_sending m s))) (list_any is_refusal (sends_acts (send_queues queues (packet_sending m s)) (map (packet_sending m) ss)))
    (clean_send m queues s) (clean_sends m (send_queues queues (packet_sending m s)) ss)

clean_handled : (g : Family) (h : Option Name) (bound : ℕ) → Clean (handled_acts g h bound)
clean_handled g None bound = refl
clean_handled g (Some n) bound = refl

clean_visit : (m : Option Stamp) (queues : Queues) (p : Packet) (left : ℕ) (s : Settled) → Clean (visit_acts m queues p left s)
unfolding visit_acts visit_sends
clean_visit m queues p left s =
    let v = s.visit in
    let handled = handled_acts p.family s.handled left in
    let sent = sends_acts queues (map (packet_sending m) v.outbox) in
    clean_append (map Noted v.notes) (Ended p.family v.outcome v.evals v.left ∷ (handled ++ sent)) (clean_notes v.notes)
    (clean_append handled sent (clean_handled p.family s.handled left) (clean_sends m queues v.outbox))

clean_by : (node : NodeState) (d : Dev) (p : Packet) (h : Hop) → Clean (forward_by node d p h).acts
unfolding forward_by
clean_by node d p (To host over) = or_both (is_refusal (send_act node.queues (packet_sending (mark node) (record { dev = over; packet = p })))) false (clean_send (mark node) node.queues (record { dev = over; packet = p })) refl
clean_by node d p NoService = refl
clean_by node d p NoRoute = refl

clean_forward : (node : NodeState) (d : Dev) (p : Packet) → Clean (forward_step node d p).acts
unfolding forward_step
clean_forward node d p = by (p.bound == 0)
  where
    by : (t : Bool) → Clean (cond t (record { acts = Arrived d ∷ Dropped reason.NoBound p.family 0 ∷ []; frame = None; node = node }) (forward_by node d p (hop (all_routes (routing_of node)) p.route node.here p.dest))).acts
    by true = refl
    by false = clean_by node d p (hop (all_routes (routing_of node)) p.route node.here p.dest)

clean_packet : (node : NodeState) (d : Dev) (p : Packet) → Clean (packet_step node d p).acts
unfolding packet_step visit_step
clean_packet node d p = by (is_host p.dest node.here)
  where
    by : (t : Bool) → Clean (cond t (visit_step (Arrived d ∷ []) node p) (forward_step node d p)).acts
    by true = clean_visit (mark node) node.queues p (visit_at node p).left (settled_at node p)
    by false = clean_forward node d p

-- what is refused brings nothing
pub refused_came : (f : Family) (node : NodeState) (d : Dev) (bytes : List ℕ) → is_accepted (node_step node (event.Frame d bytes)).acts ≡ false → came f node (event.Frame d bytes) ≡ 0
unfolding arrive_step stamped_step
refused_came f node d bytes e = by (read_by node.version bytes) e
  where
    fresh : (x : PlainFrame) → is_accepted (frame_step node d x).acts ≡ false → frame_live f x ≡ 0
    fresh (PlainFrame.Packet p) q = absurd (true≢false (sym (ap not (clean_packet node d p)) ∙ q))
    fresh (PlainFrame.Advert a) q = refl
    fresh (PlainFrame.Ask b c) q = refl

    among : (x : PlainStamped) (t : Took) → is_accepted (stamped_as node d x t).acts ≡ false → if_fresh t (frame_live f x.frame) ≡ 0
    among x Fresh q = fresh x.frame q
    among x Repeated q = refl
    among x TooOld q = refl

    by : (r : Result PlainStamped FrameFault) → is_accepted (arrived_read node d r).acts ≡ false → bytes_came f node d r ≡ 0
    by (Err e) q = refl
    by (Ok x) q = among x (takes_as node.seen d x.stamp) q

-- what is accepted was read, is fresh, and may be on its way
pub record IsTaken (node : NodeState) (d : Dev) (bytes : List ℕ) : Type 0 where
  pub frame : PlainStamped
  pub read : read_by node.version bytes ≡ Ok frame
  pub fresh : takes_as node.seen d frame.stamp ≡ Fresh
  pub way : IsOnItsWay frame.frame

pub accepted_taken : (node : NodeState) (d : Dev) (bytes : List ℕ) → is_accepted (node_step node (event.Frame d bytes)).acts ≡ true → IsTaken node d bytes
unfolding arrive_step stamped_step
accepted_taken node d bytes e = by (read_by node.version bytes) refl e
  where
    way : (x : PlainFrame) → is_accepted (frame_step node d x).acts ≡ true → IsOnItsWay x
    way (PlainFrame.Packet p) q = tt
    way (PlainFrame.Advert a) q = tt
    way (PlainFrame.Ask b c) q = absurd (true≢false (sym q))

    among : (x : PlainStamped) (t : Took) → read_by node.version bytes ≡ Ok x → takes_as node.seen d x.stamp ≡ t → is_accepted (stamped_as node d x t).acts ≡ true → IsTaken node d bytes
    among x Fresh r s q = record { frame = x; read = r; fresh = s; way = way x.frame q }
    among x Repeated r s q = absurd (true≢false (sym q))
    among x TooOld r s q = absurd (true≢false (sym q))

    by : (r : Result PlainStamped FrameFault) → read_by node.version bytes ≡ r → is_accepted (arrived_read node d r).acts ≡ true → IsTaken node d bytes
    by (Err e) r q = absurd (true≢false (sym q))
    by (Ok x) r q = among x (takes_as node.seen d x.stamp) r refl q

-- ---- frames

none_asked_plain : (node : NodeState) (x : PlainFrame) → (asked_plain node x).frame ≡ None
none_asked_plain node (PlainFrame.Packet p) = refl
none_asked_plain node (PlainFrame.Advert a) = refl
none_asked_plain node (PlainFrame.Ask b c) = inject_frame (Asked ∷ []) node c b None

none_asked : (node : NodeState) (r : Result PlainStamped FrameFault) → (asked_read node r).frame ≡ None
none_asked node (Err e) = refl
none_asked node (Ok x) = none_asked_plain node x.frame

-- each event but a taking gives no frame
pub none_event : (node : NodeState) (e : Event) → ((d : Dev) → e ≡ event.Take d → ⊥) → (node_step node e).frame ≡ None
unfolding control_step
none_event node (event.Inject c b o) n = inject_frame [] node c b o
none_event node (event.Frame d bytes) n = arrive_frame node d bytes
none_event node (event.Control bytes) n = none_asked node (read_by node.version bytes)
none_event node event.Tick n = tick_frame node
none_event node (event.Take d) n = absurd (n d refl)
