-- The families that a log's acts inject are of its host, and their serial numbers ascend.
use Rattle.std.proofs.Common.{◌≡◌, ℕ, suc, ◌+◌, ◌≤◌, Bool, true, false, cond, if◌then◌else◌, List, [], ◌∷◌, ◌++◌, map, Option, Some, None, Result, Ok, Err, refl, sym, ap, subst, ◌∙◌, arith, append-nil}
use Rattle.std.specs.Prelude.{slice_get, ◌==◌}
use Rattle.std.specs.List.{filter_map, cons_option}
use Rattle.std.proofs.lemmas.List.Elements.{filter_map-append}
use Rattle.plan_base.specs.declared.name.Name.{Name}
use Rattle.plan_base.specs.declared.ids.Host.{Host}
use Rattle.plan_base.specs.declared.ids.Dev.{Dev}
use Rattle.plan_base.specs.declared.ids.Family.{Family}
use Rattle.plan_base.specs.declared.tree.Chunk.{Chunk}
use Rattle.plan_base.specs.declared.tree.Packet.{Packet}
use Rattle.plan_base.specs.declared.stamp.Stamp.{Stamp}
use Rattle.replay_window.specs.declared.window.Took.{Took}
use Rattle.replay_window.specs.declared.window.Took.TheVariants.{Fresh, Repeated, TooOld}
use Rattle.packet_frame.specs.declared.frame.PlainFrame.{PlainFrame}
use Rattle.packet_frame.specs.declared.frame.PlainStamped.{PlainStamped}
use Rattle.packet_frame.specs.declared.fault.FrameFault.{FrameFault}
use Rattle.packet_frame.specs.Decoding.{read_by}
use Rattle.service_api.specs.declared.advert.Advert.{Advert}
use Rattle.service_api.specs.declared.answer.Note.{Note}
use Rattle.service_api.specs.declared.router.Hop.{Hop}
use Rattle.service_api.specs.declared.router.Hop.TheVariants.{To, NoService, NoRoute}
use Rattle.service_api.specs.Routes.{hop}
use Rattle.dv_routing.specs.Routing.{all_routes, own_advert}
use Rattle.plan_meaning.specs.declared.sent.Sent.{Sent}
use Rattle.plan_eval_settle.specs.declared.settling.Settled.{Settled}
use Rattle.network_config.specs.declared.event.Event.{Event}
use Rattle.network_config.specs.declared.event.Event.TheVariants as event
use Rattle.network_config.specs.declared.event.LogEvent.{LogEvent}
use Rattle.network_config.specs.declared.event.LogEvent.TheVariants.{Step, Lost}
use Rattle.node_core_spec.specs.declared.acts.Act.{Act}
use Rattle.node_core_spec.specs.declared.acts.Act.TheVariants.{Injected, Arrived, Asked, Noted, Ended, Dropped, SerialsSpent}
use Rattle.node_core_spec.specs.declared.acts.Reason.TheVariants as reason
use Rattle.node_core_spec.specs.declared.acts.TxQueue.{TxQueue}
use Rattle.node_core_spec.specs.State.{Links, Queues, NodeState, routing_of, is_host, leads_to}
use Rattle.node_core_spec.specs.Visits.{visit_at, settled_at}
use Rattle.node_core_spec.specs.Node.{NodeStep as Stepped, stepped_node, has_room, lane_room, drop_act, mark, takes_as, stamped_as, stamped_step, asked_plain, asked_read, control_step, take_first}
use Rattle.node_core_spec.specs.Node.{take_from, take_step, packet_sending, advert_sending, visit_sends, tick_sends, send_act, send_queues, sends_acts, handled_acts, visit_acts, visit_step}
use Rattle.node_core_spec.specs.Node.{next_serial, injected_packet, inject_step, forward_by, forward_step, packet_step, advert_step, frame_step, arrived_read, arrive_step, tick_step, node_step}
use Rattle.node_core_spec.proofs.Staying.{visited_stays, arrive_stays, tick_stays, take_stays}
use Rattle.ledger_audit.specs.Runs.{acts_in}
use Rattle.ledger_audit.specs.Pasts.{injected_by, injected_families}
use Rattle.ledger_audit.proofs.Takings.{step_same}

pub append_is : (xs ys : List Act) → injected_families (xs ++ ys) ≡ injected_families xs ++ injected_families ys
unfolding injected_families
append_is xs ys = filter_map-append injected_by xs ys

-- ---- acts that inject nothing

abbrev Quiet : List Act → Type 0
Quiet acts = injected_families acts ≡ []

behind : (xs ys : List Act) → Quiet ys → injected_families (xs ++ ys) ≡ injected_families xs
behind xs ys q = append_is xs ys ∙ ap (λ l. injected_families xs ++ l) q ∙ append-nil (injected_families xs)

quiet_both : (xs ys : List Act) → Quiet xs → Quiet ys → Quiet (xs ++ ys)
quiet_both xs ys p q = behind xs ys q ∙ p

quiet_more : (a : Act) (acts : List Act) → injected_by a ≡ None → Quiet acts → Quiet (a ∷ acts)
unfolding injected_families
quiet_more a acts e q = ap (λ o. cons_option o (filter_map injected_by acts)) e ∙ q

quiet_none : Quiet []
unfolding injected_families
quiet_none = refl

quiet_two : (a b : Act) → injected_by a ≡ None → injected_by b ≡ None → Quiet (a ∷ b ∷ [])
quiet_two a b x y = quiet_more a (b ∷ []) x (quiet_more b [] y quiet_none)

quiet_notes : (ns : List Note) → Quiet (map Noted ns)
quiet_notes [] = quiet_none
quiet_notes (n ∷ ns) = quiet_more (Noted n) (map Noted ns) refl (quiet_notes ns)

packet_quiet : (m : Option Stamp) (queues : Queues) (s : Sent) → injected_by (send_act queues (packet_sending m s)) ≡ None
unfolding send_act
packet_quiet m queues s = by (has_room queues s.dev (packet_sending m s).frame) (slice_get queues s.dev.0)
  where
    room : (t : Bool) → injected_by (if t then (packet_sending m s).spent else (packet_sending m s).dropped) ≡ None
    room true = refl
    room false = refl

    by : (t : Bool) (o : Option TxQueue) → injected_by (if t then (packet_sending m s).queued else drop_act o (packet_sending m s)) ≡ None
    by true o = refl
    by false None = refl
    by false (Some lane) = room (lane_room lane)

advert_quiet : (m : Option Stamp) (queues : Queues) (a : Advert) (l : Host × Dev) → injected_by (send_act queues (advert_sending m a l)) ≡ None
unfolding send_act
advert_quiet m queues a l = by (has_room queues l.1 (advert_sending m a l).frame) (slice_get queues l.1.0)
  where
    room : (t : Bool) → injected_by (if t then (advert_sending m a l).spent else (advert_sending m a l).dropped) ≡ None
    room true = refl
    room false = refl

    by : (t : Bool) (o : Option TxQueue) → injected_by (if t then (advert_sending m a l).queued else drop_act o (advert_sending m a l)) ≡ None
    by true o = refl
    by false None = refl
    by false (Some lane) = room (lane_room lane)

packets_quiet : (m : Option Stamp) (queues : Queues) (ss : List Sent) → Quiet (sends_acts queues (map (packet_sending m) ss))
unfolding sends_acts
packets_quiet m queues [] = quiet_none
packets_quiet m queues (s ∷ ss) =
    quiet_more (send_act queues (packet_sending m s))
    (sends_acts (send_queues queues (packet_sending m s)) (map (packet_sending m) ss)) (packet_quiet m queues s) (packets_quiet m (send_queues queues (packet_sending m s)) ss)

adverts_quiet : (m : Option Stamp) (queues : Queues) (a : Advert) (ls : Links) → Quiet (sends_acts queues (map (advert_sending m a) ls))
unfolding sends_acts
adverts_quiet m queues a [] = quiet_none
adverts_quiet m queues a (l ∷ ls) =
    quiet_more (send_act queues (advert_sending m a l))
    (sends_acts (send_queues queues (advert_sending m a l)) (map (advert_sending m a) ls)) (advert_quiet m queues a l) (adverts_quiet m (send_queues queues (advert_sending m a l)) a ls)

handled_quiet : (f : Family) (o : Option Name) (bound : ℕ) → Quiet (handled_acts f o bound)
handled_quiet f None bound = quiet_none
handled_quiet f (Some n) bound = quiet_more _ [] refl quiet_none

visit_quiet : (m : Option Stamp) (queues : Queues) (p : Packet) (left : ℕ) (s : Settled) → Quiet (visit_acts m queues p left s)
unfolding visit_acts visit_sends
visit_quiet m queues p left s =
    let sends = sends_acts queues (map (packet_sending m) s.visit.outbox) in
    quiet_both (map Noted s.visit.notes) (Ended p.family s.visit.outcome s.visit.evals s.visit.left ∷ (handled_acts p.family s.handled left ++ sends)) (quiet_notes s.visit.notes)
    (quiet_more (Ended p.family s.visit.outcome s.visit.evals s.visit.left) (handled_acts p.family s.handled left ++ sends) refl
    (quiet_both (handled_acts p.family s.handled left) sends (handled_quiet p.family s.handled left) (packets_quiet m queues s.visit.outbox)))

visited_gives : (acts : List Act) (s : NodeState) (p : Packet) → injected_families (visit_step acts s p).acts ≡ injected_families acts
unfolding visit_step
visited_gives acts s p = behind acts (visit_acts (mark s) s.queues p (visit_at s p).left (settled_at s p)) (visit_quiet (mark s) s.queues p (visit_at s p).left (settled_at s p))

quiet_cases : (t : Bool) (a b : Stepped) → Quiet a.acts → Quiet b.acts → Quiet (cond t a b).acts
quiet_cases true a b x y = x
quiet_cases false a b x y = y

by_quiet : (s : NodeState) (d : Dev) (p : Packet) (o : Hop) → Quiet (forward_by s d p o).acts
unfolding forward_by
by_quiet s d p (To host over) = quiet_two (Arrived d) (send_act s.queues (packet_sending (mark s) (record { dev = over; packet = p }))) refl (packet_quiet (mark s) s.queues (record { dev = over; packet = p }))
by_quiet s d p NoService = quiet_two (Arrived d) (Dropped reason.NoService p.family p.bound) refl refl
by_quiet s d p NoRoute = quiet_two (Arrived d) (Dropped reason.NoRoute p.family p.bound) refl refl

forward_quiet : (s : NodeState) (d : Dev) (p : Packet) → Quiet (forward_step s d p).acts
unfolding forward_step
forward_quiet s d p = quiet_cases (p.bound == 0) _ _ (quiet_two (Arrived d) (Dropped reason.NoBound p.family 0) refl refl) (by_quiet s d p (hop (all_routes (routing_of s)) p.route s.here p.dest))

packet_step_quiet : (s : NodeState) (d : Dev) (p : Packet) → Quiet (packet_step s d p).acts
unfolding packet_step
packet_step_quiet s d p = quiet_cases (is_host p.dest s.here) _ _ (visited_gives (Arrived d ∷ []) s p ∙ quiet_more (Arrived d) [] refl quiet_none) (forward_quiet s d p)

advert_step_quiet : (s : NodeState) (d : Dev) (a : Advert) → Quiet (advert_step s d a).acts
unfolding advert_step
advert_step_quiet s d a = quiet_cases (leads_to s.neighbours d a.host) _ _ (quiet_two _ _ refl refl) (quiet_two _ _ refl refl)

frame_quiet : (s : NodeState) (d : Dev) (x : PlainFrame) → Quiet (frame_step s d x).acts
frame_quiet s d (PlainFrame.Packet p) = packet_step_quiet s d p
frame_quiet s d (PlainFrame.Advert a) = advert_step_quiet s d a
frame_quiet s d (PlainFrame.Ask bound c) = quiet_two _ _ refl refl

as_quiet : (s : NodeState) (d : Dev) (x : PlainStamped) (t : Took) → Quiet (stamped_as s d x t).acts
as_quiet s d x Fresh = frame_quiet s d x.frame
as_quiet s d x Repeated = quiet_two _ _ refl refl
as_quiet s d x TooOld = quiet_two _ _ refl refl

arrive_quiet : (s : NodeState) (d : Dev) (bytes : List ℕ) → Quiet (arrive_step s d bytes).acts
unfolding arrive_step stamped_step
arrive_quiet s d bytes = by (read_by s.version bytes)
  where
    by : (r : Result PlainStamped FrameFault) → Quiet (arrived_read s d r).acts
    by (Ok x) = as_quiet s d x (takes_as s.seen d x.stamp)
    by (Err e) = quiet_two _ _ refl refl

tick_quiet : (s : NodeState) → Quiet (tick_step s).acts
unfolding tick_step tick_sends
tick_quiet s = quiet_more _ _ refl (adverts_quiet (mark s) s.queues (own_advert (routing_of s)) s.neighbours)

take_quiet : (s : NodeState) (d : Dev) → Quiet (take_step s d).acts
unfolding take_step
take_quiet s d = by (slice_get s.queues d.0)
  where
    first : (n : ℕ) (frames : List PlainStamped) → Quiet (take_first s d n frames).acts
    first n [] = quiet_none
    first n (x ∷ frames) = quiet_more _ [] refl quiet_none

    by : (o : Option TxQueue) → Quiet (take_from s d o).acts
    by None = quiet_none
    by (Some lane) = first lane.number lane.frames

-- ---- what a step injects

-- nothing, or one family of the node's host with its serial number, which then rises
data Gives (s : NodeState) (acts : List Act) (serial : ℕ) : Type 0 where
  gives_none : injected_families acts ≡ [] → serial ≡ s.serial → Gives s acts serial
  gives_one : injected_families acts ≡ record { source = s.here; serial = s.serial } ∷ [] → serial ≡ s.serial + 1 → Gives s acts serial

one_injected : (f : Family) (bound : ℕ) → injected_families (Injected f bound ∷ []) ≡ f ∷ []
unfolding injected_families
one_injected f bound = refl

inject_gives : (acts : List Act) (s : NodeState) (chunk : Chunk) (bound : ℕ) (o : Option Name) → Quiet acts → Gives s (inject_step acts s chunk bound o).acts (inject_step acts s chunk bound o).node.serial
unfolding inject_step
inject_gives acts s chunk bound o q = by (s.serial == 18446744073709551615)
  where
    act : Act
    act = Injected (record { source = s.here; serial = s.serial }) bound

    visit_made : Stepped
    visit_made = visit_step (acts ++ act ∷ []) (next_serial s) (injected_packet s chunk bound o)

    by : (t : Bool) → Gives s (cond t (stepped_node (acts ++ SerialsSpent ∷ []) None s) visit_made).acts (cond t (stepped_node (acts ++ SerialsSpent ∷ []) None s) visit_made).node.serial
    by true = gives_none (quiet_both acts (SerialsSpent ∷ []) q (quiet_more SerialsSpent [] refl quiet_none)) refl
    by false =
        gives_one
        (visited_gives (acts ++ act ∷ []) (next_serial s) (injected_packet s chunk bound o) ∙ append_is acts (act ∷ []) ∙ (λ i. q i ++ one_injected (record { source = s.here; serial = s.serial }) bound i))
        (visited_stays (acts ++ act ∷ []) (next_serial s) (injected_packet s chunk bound o)).serial

control_gives : (s : NodeState) (bytes : List ℕ) → Gives s (control_step s bytes).acts (control_step s bytes).node.serial
unfolding control_step
control_gives s bytes = by (read_by s.version bytes)
  where
    plain : (x : PlainFrame) → Gives s (asked_plain s x).acts (asked_plain s x).node.serial
    plain (PlainFrame.Packet p) = gives_none (quiet_two _ _ refl refl) refl
    plain (PlainFrame.Advert a) = gives_none (quiet_two _ _ refl refl) refl
    plain (PlainFrame.Ask bound c) = inject_gives (Asked ∷ []) s c bound None (quiet_more Asked [] refl quiet_none)

    by : (r : Result PlainStamped FrameFault) → Gives s (asked_read s r).acts (asked_read s r).node.serial
    by (Ok x) = plain x.frame
    by (Err e) = gives_none (quiet_two _ _ refl refl) refl

step_gives : (s : NodeState) (e : Event) → Gives s (node_step s e).acts (node_step s e).node.serial
step_gives s (event.Inject chunk bound o) = inject_gives [] s chunk bound o quiet_none
step_gives s (event.Frame d bytes) = gives_none (arrive_quiet s d bytes) (arrive_stays s d bytes).serial
step_gives s (event.Control bytes) = control_gives s bytes
step_gives s event.Tick = gives_none (tick_quiet s) (tick_stays s).serial
step_gives s (event.Take d) = gives_none (take_quiet s d) (take_stays s d).serial

-- ---- a log

-- families of a host, whose serial numbers ascend from this one on
abbrev pub Rising : Host → ℕ → List Family → Type 0
Rising h n [] = Unit {0}
Rising h n (f ∷ fs) = (f.source ≡ h) × ((n ≤ f.serial) × Rising h (suc f.serial) fs)

pub log_rises : (s : NodeState) (es : List LogEvent) → Rising s.here s.serial (injected_families (acts_in s es))
unfolding injected_families
log_rises s [] = tt
log_rises s (Lost ∷ es) = log_rises s es
log_rises s (Step e ∷ es) = by (step_gives s e) (log_rises (node_step s e).node es)
  where
    next : NodeState
    next = (node_step s e).node

    rest : List Family
    rest = injected_families (acts_in next es)

    both : injected_families ((node_step s e).acts ++ acts_in next es) ≡ injected_families (node_step s e).acts ++ rest
    both = append_is (node_step s e).acts (acts_in next es)

    by : Gives s (node_step s e).acts next.serial → Rising next.here next.serial rest → Rising s.here s.serial (injected_families ((node_step s e).acts ++ acts_in next es))
    by (gives_none none same) r =
        subst (Rising s.here s.serial) (sym (both ∙ ap (λ l. l ++ rest) none))
        (subst (λ h. Rising h s.serial rest) (step_same s e).here (subst (λ n. Rising next.here n rest) same r))
    by (gives_one one more) r =
        let n : s.serial + 1 ≡ suc s.serial = omega arith in
        subst (Rising s.here s.serial) (sym (both ∙ ap (λ l. l ++ rest) one))
        (refl, (omega arith, subst (λ h. Rising h (suc s.serial) rest) (step_same s e).here (subst (λ k. Rising next.here k rest) (more ∙ n) r)))
