-- The frames of a run are those that the entries of its log send.
use Rattle.std.proofs.Common.{◌≡◌, ℕ, zero, suc, ◌+◌, ◌<◌, ◌==◌, Bool, true, false, if◌then◌else◌, List, [], ◌∷◌, ◌++◌, length, slice_get, nat_le, drop, Option, Some, None, refl, sym, ◌∙◌, ap, arith, append_assoc, append-nil}
use Rattle.std.proofs.lemmas.Bool.Decides.{nat_tests}
use Rattle.plan_base.specs.declared.ids.Dev.{Dev}
use Rattle.packet_frame.specs.declared.frame.PlainStamped.{PlainStamped}
use Rattle.packet_frame.specs.Stamped.{stamped_bytes}
use Rattle.network_config.specs.declared.serve.Inject.{Inject as Injection}
use Rattle.network_config.specs.Hosts.{dev_of}
use Rattle.network_config.specs.declared.event.Event.{Event}
use Rattle.network_config.specs.declared.event.Event.TheVariants.{Inject, Frame, Control, Tick, Take}
use Rattle.network_config.specs.declared.event.LogEvent.{LogEvent}
use Rattle.network_config.specs.declared.event.LogEvent.TheVariants.{Step, Lost}
use Rattle.network_config.specs.declared.serve.ServeConfig.{ServeConfig}
use Rattle.node_io.specs.declared.link.Peer.{Peer}
use Rattle.node_io.specs.declared.link.Arrival.{Arrival}
use Rattle.node_io.specs.Links.{Heard, has_peer, next_heard}
use Rattle.node_core_spec.specs.State.{NodeState}
use Rattle.node_log.specs.Runs.{node_by, node_after, Running, opened_run, with_entry, marked_running, holding, with_sent, Action, then_do, is_refused, make, tick, inject_one, inject_to, arrival, hear}
use Rattle.node_log.specs.Runs.{first_on, queued_on, come_back, take_back, loop_back, send_taken, take_send, repeat_send, flush_device, flush_to, release, flush, begin_turn, end_turn, turn, turns}
use Rattle.node_log.specs.Runs.{node_run, peers_of, time_at}
use Rattle.node_serve.specs.Sendings.{sending, sent_at, frames_of, SendsNone}

-- what arrives sends nothing
pub arrives_quiet : (x : Heard) → SendsNone (arrival x)
arrives_quiet x = by (x.0.0 == 0)
  where
    by : (own : Bool) → SendsNone (if own then Control x.1 else Frame x.0 x.1)
    by true node = refl
    by false node = refl

-- a taking for a neighbour sends the frame that it took
pub sends_on : (node : NodeState) (d : Dev) → 0 < d.0 → sent_at node (Step (Take d)) ≡ sending d (first_on node d)
sends_on node d there =
    let other : (d.0 == 0) ≡ false = grind (arith, nat_tests, there) in
    ap (λ b. if b then [] else sending d (first_on node d)) other

-- ---- a run goes on, and sends what its new entries send

record Sends (r d : Running) : Type 0 where
  events : List LogEvent
  log : d.events ≡ r.events ++ events
  node : d.node ≡ node_after r.node events
  frames : d.sent ≡ r.sent ++ frames_of r.node events

frames_both : (node : NodeState) (xs ys : List LogEvent) → frames_of node (xs ++ ys) ≡ frames_of node xs ++ frames_of (node_after node xs) ys
unfolding frames_of node_after
frames_both node [] ys = refl
frames_both node (x ∷ xs) ys =
    let next = node_by node x in
    ap (λ l. sent_at node x ++ l) (frames_both next xs ys) ∙ sym (append_assoc (sent_at node x) (frames_of next xs) (frames_of (node_after next xs) ys))

after_both : (node : NodeState) (xs ys : List LogEvent) → node_after node (xs ++ ys) ≡ node_after (node_after node xs) ys
unfolding node_after
after_both node [] ys = refl
after_both node (x ∷ xs) ys = after_both (node_by node x) xs ys

same_sends : (r d : Running) → d.events ≡ r.events → d.node ≡ r.node → d.sent ≡ r.sent → Sends r d
unfolding frames_of node_after
same_sends r d e n s = record { events = []; log = e ∙ sym (append-nil r.events); node = n; frames = s ∙ sym (append-nil r.sent) }

both_sends : (a b c : Running) → Sends a b → Sends b c → Sends a c
both_sends a b c x y = record {
  events = x.events ++ y.events;
  log = y.log ∙ ap (λ l. l ++ y.events) x.log ∙ append_assoc a.events x.events y.events;
  node = y.node ∙ ap (λ n. node_after n y.events) x.node ∙ sym (after_both a.node x.events y.events);
  frames = y.frames ∙ ap (λ l. l ++ frames_of b.node y.events) x.frames ∙ append_assoc a.sent (frames_of a.node x.events) (frames_of b.node y.events)
      ∙ ap (λ n. a.sent ++ (frames_of a.node x.events ++ frames_of n y.events)) x.node ∙ ap (λ l. a.sent ++ l) (sym (frames_both a.node x.events y.events));
}

-- one entry, and what it sends
entry_sends : (e : LogEvent) (r d : Running) → d.events ≡ r.events ++ e ∷ [] → d.node ≡ node_by r.node e → d.sent ≡ r.sent ++ sent_at r.node e → Sends r d
unfolding frames_of node_after
entry_sends e r d l n s = record { events = e ∷ []; log = l; node = n; frames = s ∙ ap (λ f. r.sent ++ f) (sym (append-nil (sent_at r.node e))) }

quiet_sends : (e : LogEvent) (r : Running) → sent_at r.node e ≡ [] → Sends r (with_entry e r)
unfolding with_entry
quiet_sends e r none = entry_sends e r (with_entry e r) refl refl (sym (append-nil r.sent) ∙ ap (λ f. r.sent ++ f) (sym none))

-- ---- whatever is refused

abbrev AllSends : Action → Type 0
AllSends act = (refused : List ℕ) (r : Running) → Sends r (act refused r)

stay_sends : (r : Running) → Sends r r
stay_sends r = same_sends r r refl refl refl

both : (f g : Action) → AllSends f → AllSends g → AllSends (then_do f g)
both f g x y refused r = both_sends r (f refused r) (g refused (f refused r)) (x refused r) (y refused (f refused r))

either : (b : Bool) (r x y : Running) → Sends r x → Sends r y → Sends r (if b then x else y)
either true r x y h k = h
either false r x y h k = k

make_sends : (e : Event) → SendsNone e → AllSends (make e)
unfolding make
make_sends e none refused r = by (is_refused refused r)
  where
    by : (b : Bool) → Sends r (with_entry (if b then Lost else Step e) r)
    by true = quiet_sends Lost r refl
    by false = quiet_sends (Step e) r (none r.node)

tick_sends : (period t : ℕ) → AllSends (tick period t)
unfolding tick
tick_sends period t refused r = either (nat_le (r.last + period) t) r (marked_running t (make Tick refused r)) r
    (both_sends r (make Tick refused r) (marked_running t (make Tick refused r)) (make_sends Tick (λ node. refl) refused r) (same_sends (make Tick refused r) (marked_running t (make Tick refused r)) refl refl refl)) (stay_sends r)

inject_one_sends : (turn : ℕ) (x : Option Injection) → AllSends (inject_one turn x)
inject_one_sends turn None refused r = stay_sends r
inject_one_sends turn (Some x) refused r = either (x.turn == turn) r (make (Inject x.chunk x.bound x.handler) refused r) r (make_sends (Inject x.chunk x.bound x.handler) (λ node. refl) refused r) (stay_sends r)

inject_to_sends : (turn : ℕ) (at : List Injection) (n : ℕ) → AllSends (inject_to turn at n)
unfolding inject_to
inject_to_sends turn at zero refused r = stay_sends r
inject_to_sends turn at (suc n) refused r = both (inject_to turn at n) (inject_one turn (slice_get at n)) (inject_to_sends turn at n) (inject_one_sends turn (slice_get at n)) refused r

hear_sends : (h : Option Heard) → AllSends (hear h)
hear_sends None refused r = stay_sends r
hear_sends (Some x) refused r = make_sends (arrival x) (arrives_quiet x) refused r

come_back_sends : (x : Option PlainStamped) → AllSends (come_back x)
come_back_sends None refused r = stay_sends r
come_back_sends (Some x) refused r = make_sends (Frame (dev_of 0) (stamped_bytes x)) (λ node. refl) refused r

take_back_sends : AllSends take_back
unfolding take_back
take_back_sends refused r =
    let taken = with_entry (Step (Take (dev_of 0))) r in
    let x = first_on r.node (dev_of 0) in
    either (is_refused refused r) r (with_entry Lost r) (come_back x refused taken) (quiet_sends Lost r refl)
    (both_sends r taken (come_back x refused taken) (quiet_sends (Step (Take (dev_of 0))) r refl) (come_back_sends x refused taken))

loop_back_sends : AllSends loop_back
unfolding loop_back
loop_back_sends refused r = either (nat_le 1 (queued_on r.node (dev_of 0))) r (take_back refused r) r (take_back_sends refused r) (stay_sends r)

taken_sends : (d : Dev) (x : Option PlainStamped) (r : Running) → sent_at r.node (Step (Take d)) ≡ sending d x → Sends r (send_taken d x (with_entry (Step (Take d)) r))
unfolding with_entry
taken_sends d None r e = quiet_sends (Step (Take d)) r e
taken_sends d (Some x) r e = entry_sends (Step (Take d)) r (with_sent d x (with_entry (Step (Take d)) r)) refl refl (ap (λ l. r.sent ++ l) (sym e))

take_send_sends : (d : Dev) → 0 < d.0 → AllSends (take_send d)
unfolding take_send
take_send_sends d there refused r =
    let taken = with_entry (Step (Take d)) r in
    let x = first_on r.node d in
    either r.held r r (if is_refused refused r then holding true (with_entry Lost r) else send_taken d x taken) (stay_sends r)
    (either (is_refused refused r) r (holding true (with_entry Lost r)) (send_taken d x taken)
    (both_sends r (with_entry Lost r) (holding true (with_entry Lost r)) (quiet_sends Lost r refl) (same_sends (with_entry Lost r) (holding true (with_entry Lost r)) refl refl refl))
    (taken_sends d x r (sends_on r.node d there)))

repeat_send_sends : (d : Dev) → 0 < d.0 → (n : ℕ) → AllSends (repeat_send d n)
unfolding repeat_send
repeat_send_sends d there zero refused r = stay_sends r
repeat_send_sends d there (suc n) refused r = both (repeat_send d n) (take_send d) (repeat_send_sends d there n) (take_send_sends d there) refused r

flush_device_sends : (peers : List Peer) (d : Dev) → 0 < d.0 → AllSends (flush_device peers d)
unfolding flush_device
flush_device_sends peers d there refused r = either (has_peer peers d) r (repeat_send d (queued_on r.node d) refused r) r (repeat_send_sends d there (queued_on r.node d) refused r) (stay_sends r)

flush_to_sends : (peers : List Peer) (n : ℕ) → AllSends (flush_to peers n)
unfolding flush_to
flush_to_sends peers zero refused r = stay_sends r
flush_to_sends peers (suc n) refused r = both (flush_to peers n) (flush_device peers (dev_of (n + 1))) (flush_to_sends peers n) (flush_device_sends peers (dev_of (n + 1)) (omega arith)) refused r

turn_sends : (cfg : ServeConfig) (i t : ℕ) (h : Option Heard) → AllSends (turn cfg i t h)
turn_sends cfg i t h =
    both (begin_turn cfg i t) (then_do (hear h) (end_turn (peers_of cfg)))
    (both (tick cfg.period t) (inject_to i cfg.at (length cfg.at)) (tick_sends cfg.period t) (inject_to_sends i cfg.at (length cfg.at)))
    (both (hear h) (end_turn (peers_of cfg)) (hear_sends h)
    (both loop_back (flush (peers_of cfg)) loop_back_sends
    (both release (flush_to (peers_of cfg) 8) (λ refused r. same_sends r (holding false r) refl refl refl) (flush_to_sends (peers_of cfg) 8))))

turns_send : (cfg : ServeConfig) (script : List Arrival) (last : ℕ) (answers : List ℕ) (n : ℕ) → AllSends (turns cfg script last answers n)
unfolding turns
turns_send cfg script last answers zero refused r = stay_sends r
turns_send cfg script last answers (suc n) refused r =
    let next = turn cfg (n + 1) (time_at last answers (n + 1)) (next_heard (peers_of cfg) (drop n script)) in
    both (turns cfg script last answers n) next (turns_send cfg script last answers n) (turn_sends cfg (n + 1) (time_at last answers (n + 1)) (next_heard (peers_of cfg) (drop n script))) refused r

-- the frames of a run are those that the entries of its log send
pub frames_of_run : (cfg : ServeConfig) (node : NodeState) (script : List Arrival) (last : ℕ) (answers : List ℕ) (n : ℕ) (refused : List ℕ)
    → (node_run cfg node script last answers n refused).sent ≡ frames_of node (node_run cfg node script last answers n refused).events
unfolding node_run
frames_of_run cfg node script last answers n refused =
    let x = turns_send cfg script last answers n refused (opened_run node) in
    x.frames ∙ ap (frames_of node) (sym x.log)
