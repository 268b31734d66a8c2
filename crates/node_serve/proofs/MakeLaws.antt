-- A step that was made and written, or not.
use Rattle.std.proofs.Common.{◌≡◌, ◌≢◌, ℕ, suc, ◌+◌, ◌<◌, ◌==◌, ◌⊎◌, inl, inr, get_or, Bool, true, false, if◌then◌else◌, nat_le, List, [], ◌∷◌, ◌++◌, length, drop, slice_get, Option, Some, None}
use Rattle.std.proofs.Common.{Result, Ok, Err, MatchResult, refl, sym, ◌∙◌, ap, subst, arith, length-append, append-nil}
use Rattle.std.proofs.lemmas.Bool.Decides.{nat_tests}
use Rattle.plan_base.specs.declared.ids.Dev.{Dev}
use Rattle.plan_base.specs.declared.ids.Host.{Host}
use Rattle.packet_frame.specs.declared.frame.PlainStamped.{PlainStamped}
use Rattle.packet_frame.specs.Stamped.{stamped_bytes}
use Rattle.network_config.specs.declared.serve.Inject.{Inject as Injection}
use Rattle.network_config.specs.Hosts.{dev_of}
use Rattle.network_config.specs.declared.event.Event.{Event}
use Rattle.network_config.specs.declared.event.Event.TheVariants.{Inject, Frame, Take}
use Rattle.network_config.specs.declared.event.LogEvent.{LogEvent}
use Rattle.network_config.specs.declared.event.LogEvent.TheVariants as entry
use Rattle.network_config.specs.declared.serve.ServeConfig.{ServeConfig}
use Rattle.service_api.specs.Services.{ServiceState}
use Rattle.node_io.specs.FileMaps.{ChangesOnly, WritesMore}
use Rattle.node_serve.specs.Fronts.{AppendsFront, WritesFront}
use Rattle.node_io.specs.declared.link.Peer.{Peer}
use Rattle.node_io.specs.declared.link.Arrival.{Arrival}
use Rattle.node_io.specs.Links.{Heard, has_peer, next_heard}
use Rattle.node_core_spec.specs.declared.acts.TxQueue.{TxQueue}
use Rattle.node_core_spec.specs.State.{NodeState}
use Rattle.node_core.specs.declared.node.Node.{Node}
use Rattle.node_core.specs.Stands.{NodeStands}
use Rattle.node_core_parts.specs.Queued.{queued_at}
use Rattle.node_log.specs.Runs.{Running, acts_of, node_by, entries_at, with_entry, holding, marked_running, then_do, make, first_on, inject_one, inject_to, hear, frames_in, queued_on, come_back}
use Rattle.node_log.specs.Runs.{take_back, loop_back, send_taken, take_send, repeat_send, flush_device, flush_to, turn, time_at, turns, peers_of}
use Rattle.node_log.specs.Texts.{lines_text}
use Rattle.node_log.specs.Follow.{entry_of}
use Rattle.node_serve.specs.Sendings.{sending, sent_at, frames_of, SendsNone}
use Rattle.node_serve.specs.Shown.{Seen, Start, run_log, Sees, Shows, Reached, Stopped, Leaves, UsedUpTo}
use Rattle.node_io.proofs.Taking.{rest_next}
use Rattle.node_serve.proofs.Showing.{sees_entry, sees_sent, shows_holding}
use Rattle.node_serve.proofs.FrameLaws.{sends_on}
use Rattle.node_serve.proofs.Agreeing.{frames_next, shows_unsent, fronts_unsent, fronts_log, fronts_lines}
use Rattle.node_serve.proofs.Following.{reached_make, stopped_make, back_lost, send_lost, sent_events, send_took, send_failed}
use Rattle.node_serve.specs.declared.server.Server.{Server}
use Rattle.node_serve.specs.declared.steps.StepOutcome.{StepOutcome}
use Rattle.node_serve.specs.declared.steps.StepOutcome.TheVariants.{Lost, Took}
use Rattle.node_serve.specs.declared.steps.StepTexts.{StepTexts}
use Rattle.node_serve.specs.Steps.{was_lost, Written, WrittenFront, in_log, in_trace}
use Rattle.node_serve.specs.Stays.{StandsFor, Makes}

-- an entry that sends nothing
none_of : (b : Bool) (e : Event) (node : NodeState) → SendsNone e → sent_at node (entry_of b e) ≡ []
none_of true e node none = refl
none_of false e node none = none node

pub made_reached : {S : Type 0} (stands : S → ServiceState) (cfg : ServeConfig) (base : Start) (old seen : Seen) (r : Running) (e : Event) (made : StepOutcome) (server : Server S) → SendsNone e → Shows cfg base old r
    → Makes stands cfg base seen r e made server → Reached (StandsFor stands server) cfg base seen r (make e)
made_reached stands cfg base old seen r e made server none sh m =
    reached_make (StandsFor stands server) cfg base seen r e (was_lost made) m.stands_for (shows_unsent cfg base old seen (entry_of (was_lost made) e) r sh (none_of (was_lost made) e r.node none) m.sees)

-- the lines of a step with this number are those of the next entry
lines_are : (here : Host) (n k : ℕ) (r : Running) (e : LogEvent) → n ≡ k + 1 → k ≡ length r.events → lines_text here (entries_at n (acts_of r.node e)) ≡ lines_text here (entries_at (length r.events + 1) (acts_of r.node e))
lines_are here n k r e number steps = ap (λ m. lines_text here (entries_at m (acts_of r.node e))) (number ∙ ap (λ m. m + 1) steps)

module _ {S : Type 0} (stands : S → ServiceState) (cfg : ServeConfig) (base : Start) (old new : Seen) (r : Running) (e : Event) (n : ℕ) (texts : StepTexts) (server : Server S) (node : Node S)
    (st : StandsFor stands server r) (sh : Shows cfg base old r) (number : n ≡ server.steps + 1) (w : Written stands cfg.node n r.node e texts node) where
  pub step_stopped : (line lines : List ℕ) → line ≡ texts.line → lines ≡ texts.lines → WrittenFront old.files new.files old.target line old.taken new.taken lines → new.sent ≡ old.sent → Stopped cfg base new r (make e)
  step_stopped line lines l m (in_log front same) sent =
      stopped_make cfg base new r e (was_lost texts.made)
      (fronts_log cfg base old new (entry_of (was_lost texts.made) e) r sh w.readable (subst (WritesFront old.files new.files old.target) (l ∙ w.line) front) same sent)
  step_stopped line lines l m (in_trace log front) sent =
      stopped_make cfg base new r e (was_lost texts.made)
      (fronts_lines cfg base old new (entry_of (was_lost texts.made) e) r sh w.readable (subst (WritesMore old.files new.files old.target) (l ∙ w.line) log)
      (subst (AppendsFront old.taken new.taken) (m ∙ w.lines ∙ lines_are cfg.node.here n server.steps r (entry_of (was_lost texts.made) e) number st.steps) front) sent)

  pub step_made : (after : Server S) (line lines : List ℕ) → line ≡ texts.line → lines ≡ texts.lines → WritesMore old.files new.files old.target line → new.taken ≡ old.taken ++ lines → new.target ≡ old.target → new.sent ≡ old.sent
      → after.node ≡ node → after.last ≡ server.last → after.held ≡ server.held → after.steps ≡ n → Makes stands cfg base new r e texts.made after
  unfolding with_entry
  step_made after line lines l m log out target sent an al ah as_ =
      let entry = entry_of (was_lost texts.made) e in
      record {
        stands_for = record {
          node = subst (λ x. NodeStands stands x (node_by r.node entry)) (sym an) w.node;
          last = al ∙ st.last;
          held = ah ∙ st.held;
          steps = as_ ∙ number ∙ ap (λ k. k + 1) st.steps ∙ sym (length-append r.events (entry ∷ []));
        };
        sees = sees_entry cfg base old new entry r sh.sees w.readable (subst (WritesMore old.files new.files old.target) (l ∙ w.line) log) target
            (out ∙ ap (λ x. old.taken ++ x) (m ∙ w.lines ∙ lines_are cfg.node.here n server.steps r entry number st.steps)) sent;
        frame = w.frame;
      }

-- ---- parts of a server

pub stands_marked : {S : Type 0} (stands : S → ServiceState) (server after : Server S) (r : Running) (t : ℕ) → StandsFor stands server r → after.node ≡ server.node → after.last ≡ t
    → after.held ≡ server.held → after.steps ≡ server.steps → StandsFor stands after (marked_running t r)
stands_marked stands server after r t st n l h k = record { node = subst (λ x. NodeStands stands x r.node) (sym n) st.node; last = l; held = h ∙ st.held; steps = k ∙ st.steps }

pub stands_holding : {S : Type 0} (stands : S → ServiceState) (server after : Server S) (r : Running) (b : Bool) → StandsFor stands server r → after.node ≡ server.node → after.last ≡ server.last
    → after.held ≡ b → after.steps ≡ server.steps → StandsFor stands after (holding b r)
stands_holding stands server after r b st n l h k = record { node = subst (λ x. NodeStands stands x r.node) (sym n) st.node; last = l ∙ st.last; held = h; steps = k ∙ st.steps }

-- ---- what a step gave

-- a refused taking for the node itself
pub back_refused : {S : Type 0} (stands : S → ServiceState) (cfg : ServeConfig) (base : Start) (old seen : Seen) (r : Running) (server : Server S) → Shows cfg base old r
    → Makes stands cfg base seen r (Take (dev_of 0)) Lost server → Reached (StandsFor stands server) cfg base seen r take_back
back_refused stands cfg base old seen r server sh m = back_lost (StandsFor stands server) cfg base seen r m.stands_for (shows_unsent cfg base old seen entry.Lost r sh refl m.sees)

-- a refused taking for a neighbour
pub send_refused : {S : Type 0} (stands : S → ServiceState) (cfg : ServeConfig) (base : Start) (old seen : Seen) (r : Running) (d : Dev) (server after : Server S) → r.held ≡ false
    → Shows cfg base old r → Makes stands cfg base seen r (Take d) Lost server
    → after.node ≡ server.node → after.last ≡ server.last → after.held ≡ true → after.steps ≡ server.steps → Reached (StandsFor stands after) cfg base seen r (take_send d)
send_refused stands cfg base old seen r d server after h sh m n l k s =
    send_lost (StandsFor stands after) cfg base seen r d h
    (stands_holding stands server after (with_entry entry.Lost r) true m.stands_for n l k s) (shows_unsent cfg base old seen entry.Lost r sh refl m.sees)

sent_by : (d : Dev) (x : Option PlainStamped) (r : Running) → (send_taken d x r).sent ≡ r.sent ++ sending d x
sent_by d None r = sym (append-nil r.sent)
sent_by d (Some x) r = refl

stands_sent : {S : Type 0} (stands : S → ServiceState) (server : Server S) (d : Dev) (x : Option PlainStamped) (r : Running) → StandsFor stands server r → StandsFor stands server (send_taken d x r)
stands_sent stands server d None r st = st
stands_sent stands server d (Some x) r st = record { node = st.node; last = st.last; held = st.held; steps = st.steps }

sees_taken : (cfg : ServeConfig) (base : Start) (old new : Seen) (d : Dev) (x : Option PlainStamped) (r : Running) → Sees cfg base old r → new.files ≡ old.files → new.target ≡ old.target
    → new.taken ≡ old.taken → new.sent ≡ old.sent ++ sending d x → Sees cfg base new (send_taken d x r)
sees_taken cfg base old new d None r h f t k s = record {
  grows = h.grows;
  log = subst (λ y. ChangesOnly base.files y cfg.log (run_log cfg r)) (sym f) h.log;
  target = t ∙ h.target;
  out = k ∙ h.out;
  sent = s ∙ append-nil old.sent ∙ h.sent;
  readable = h.readable;
}
sees_taken cfg base old new d (Some x) r h f t k s = sees_sent cfg base old new d x (stamped_bytes x) r h refl f t k s

frames_taken : (cfg : ServeConfig) (base : Start) (old : Seen) (r : Running) (d : Dev) (x : Option PlainStamped) → Shows cfg base old r → 0 < d.0 → x ≡ first_on r.node d
    → (send_taken d x (with_entry (entry.Step (Take d)) r)).sent ≡ frames_of base.node (send_taken d x (with_entry (entry.Step (Take d)) r)).events
unfolding with_entry
frames_taken cfg base old r d x h there e =
    let taken = with_entry (entry.Step (Take d)) r in
    sent_by d x taken ∙ ap (λ l. l ++ sending d x) h.frames ∙ ap (λ l. frames_of base.node r.events ++ l) (sym (sends_on r.node d there ∙ ap (sending d) (sym e)))
    ∙ sym (frames_next base.node (entry.Step (Take d)) r h.sees.grows) ∙ ap (frames_of base.node) (sym (sent_events d x taken))

-- a frame that was taken, and sent or not
pub send_result : {S T E : Type 0} (stands : S → ServiceState) (cfg : ServeConfig) (base : Start) (before old new : Seen) (r : Running) (d : Dev) (x : Option PlainStamped) (server : Server S)
    (result : Result T E)
    → r.held ≡ false → 0 < d.0 → Shows cfg base before r → Makes stands cfg base old r (Take d) (Took x) server
    → MatchResult result (λ _. new.sent ≡ old.sent ++ sending d x) (λ _. new.sent ≡ old.sent) → new.files ≡ old.files → new.target ≡ old.target → new.taken ≡ old.taken → Leaves (StandsFor stands server) cfg base new r (take_send d) result
send_result stands cfg base before old new r d x server (Ok y) h there sh m s f t k =
    let taken = with_entry (entry.Step (Take d)) r in
    send_took (StandsFor stands server) cfg base new r d x h (m.frame refl) (stands_sent stands server d x taken m.stands_for)
    (record { sees = sees_taken cfg base old new d x taken m.sees f t k s; frames = frames_taken cfg base before r d x sh there (m.frame refl) })
send_result stands cfg base before old new r d x server (Err y) h there sh m s f t k =
    let taken = with_entry (entry.Step (Take d)) r in
    send_failed cfg base new r d h (fronts_unsent cfg base before new (entry.Step (Take d)) r sh (record {
      grows = m.sees.grows;
      log = subst (λ z. ChangesOnly base.files z cfg.log (run_log cfg taken)) (sym f) m.sees.log;
      target = t ∙ m.sees.target;
      out = k ∙ m.sees.out;
      sent = s ∙ m.sees.sent;
      readable = m.sees.readable;
    }))

-- ---- tests of the code, and of the definition

add_one : (n : ℕ) → suc n ≡ n + 1
add_one n = omega arith

if_is : {A : Type 0} (b c : Bool) (x y : A) → b ≡ c → (if b then x else y) ≡ (if c then x else y)
if_is b c x y h = ap (λ d. if d then x else y) h

pub over_is : {S : Type 0} (stands : S → ServiceState) (server : Server S) (r : Running) (period now : ℕ) (b : Bool) → StandsFor stands server r → b ≡ nat_le (server.last + period) now → nat_le (r.last + period) now ≡ b
over_is stands server r period now b st e = ap (λ k. nat_le (k + period) now) (sym st.last) ∙ sym e

pub inject_stay : (turn : ℕ) (x : Injection) (r : Running) → (x.turn == turn) ≡ false → (refused : List ℕ) → inject_one turn (Some x) refused r ≡ r
inject_stay turn x r h refused = if_is (x.turn == turn) false (make (Inject x.chunk x.bound x.handler) refused r) r h

pub inject_makes : (turn : ℕ) (x : Injection) (r : Running) → (x.turn == turn) ≡ true → (refused : List ℕ) → make (Inject x.chunk x.bound x.handler) refused r ≡ inject_one turn (Some x) refused r
inject_makes turn x r h refused = sym (if_is (x.turn == turn) true (make (Inject x.chunk x.bound x.handler) refused r) r h)

-- one more injection
pub inject_next : (turn : ℕ) (at : List Injection) (i : ℕ) (x : Injection) (r : Running) → slice_get at i ≡ Some x → (refused : List ℕ)
    → then_do (inject_to turn at i) (inject_one turn (Some x)) refused r ≡ inject_to turn at (i + 1) refused r
unfolding inject_to
inject_next turn at i x r h refused = ap (λ o. inject_one turn o refused (inject_to turn at i refused r)) (sym h) ∙ ap (λ n. inject_to turn at n refused r) (add_one i)

pub inject_none : (turn : ℕ) (at : List Injection) (r : Running) (refused : List ℕ) → inject_to turn at 0 refused r ≡ r
unfolding inject_to
inject_none turn at r refused = refl

-- the script gives nothing
pub hear_stay : (h : Option Heard) (r : Running) → h ≡ None → (refused : List ℕ) → hear h refused r ≡ r
hear_stay h r e refused = ap (λ o. hear o refused r) e

pub hear_as : (h : Option Heard) (x : Heard) (r : Running) → h ≡ Some x → (refused : List ℕ) → hear (Some x) refused r ≡ hear h refused r
hear_as h x r e refused = ap (λ o. hear o refused r) (sym e)

same_count : (o : Option TxQueue) → queued_at o ≡ frames_in o
same_count None = refl
same_count (Some lane) = refl

-- the frames queued on a device
pub count_is : {S : Type 0} (stands : S → ServiceState) (server : Server S) (r : Running) (d : Dev) (n : ℕ) → StandsFor stands server r
    → ((s : NodeState) → NodeStands stands server.node s → n ≡ queued_at (slice_get s.queues d.0)) → n ≡ queued_on r.node d
count_is stands server r d n st h = h r.node st.node ∙ same_count (slice_get r.node.queues d.0)

pub no_back : (r : Running) (n : ℕ) → n ≡ queued_on r.node (dev_of 0) → n ≡ 0 → (refused : List ℕ) → loop_back refused r ≡ r
unfolding loop_back
no_back r n h z refused = if_is (nat_le 1 (queued_on r.node (dev_of 0))) false (take_back refused r) r (ap (nat_le 1) (sym h ∙ z))

pub some_back : (r : Running) (n : ℕ) → n ≡ queued_on r.node (dev_of 0) → nat_le 1 n ≡ true → (refused : List ℕ) → take_back refused r ≡ loop_back refused r
unfolding loop_back
some_back r n h z refused = sym (if_is (nat_le 1 (queued_on r.node (dev_of 0))) true (take_back refused r) r (ap (nat_le 1) (sym h) ∙ z))

pub no_flush : (peers : List Peer) (d : Dev) (r : Running) → has_peer peers d ≡ false → (refused : List ℕ) → flush_device peers d refused r ≡ r
unfolding flush_device
no_flush peers d r h refused = if_is (has_peer peers d) false (repeat_send d (queued_on r.node d) refused r) r h

pub some_flush : (peers : List Peer) (d : Dev) (r : Running) (n : ℕ) → has_peer peers d ≡ true → n ≡ queued_on r.node d → (refused : List ℕ) → repeat_send d n refused r ≡ flush_device peers d refused r
unfolding flush_device
some_flush peers d r n h k refused = ap (λ m. repeat_send d m refused r) k ∙ sym (if_is (has_peer peers d) true (repeat_send d (queued_on r.node d) refused r) r h)

pub repeat_none : (d : Dev) (r : Running) (refused : List ℕ) → repeat_send d 0 refused r ≡ r
unfolding repeat_send
repeat_none d r refused = refl

pub repeat_next : (d : Dev) (i : ℕ) (r : Running) (refused : List ℕ) → then_do (repeat_send d i) (take_send d) refused r ≡ repeat_send d (i + 1) refused r
unfolding repeat_send
repeat_next d i r refused = ap (λ n. repeat_send d n refused r) (add_one i)

pub flush_none : (peers : List Peer) (r : Running) (refused : List ℕ) → flush_to peers 0 refused r ≡ r
unfolding flush_to
flush_none peers r refused = refl

pub flush_next : (peers : List Peer) (i : ℕ) (r : Running) (refused : List ℕ) → then_do (flush_to peers i) (flush_device peers (dev_of (i + 1))) refused r ≡ flush_to peers (i + 1) refused r
unfolding flush_to
flush_next peers i r refused = ap (λ n. flush_to peers n refused r) (add_one i)

pub turns_none : (cfg : ServeConfig) (script : List Arrival) (last : ℕ) (answers : List ℕ) (r : Running) (refused : List ℕ) → turns cfg script last answers 0 refused r ≡ r
unfolding turns
turns_none cfg script last answers r refused = refl

pub turns_next : (cfg : ServeConfig) (script : List Arrival) (last : ℕ) (answers : List ℕ) (i : ℕ) (r : Running) (refused : List ℕ)
    → then_do (turns cfg script last answers i) (turn cfg (i + 1) (time_at last answers (i + 1)) (next_heard (peers_of cfg) (drop i script))) refused r ≡ turns cfg script last answers (i + 1) refused r
unfolding turns
turns_next cfg script last answers i r refused = ap (λ n. turns cfg script last answers n refused r) (add_one i)

pub shows_held : (cfg : ServeConfig) (base : Start) (seen : Seen) (r : Running) → Shows cfg base seen r → Shows cfg base seen (holding false r)
shows_held cfg base seen r s = shows_holding cfg base seen false r s

-- what a step gave, by its case
pub made_as : {S : Type 0} (stands : S → ServiceState) (cfg : ServeConfig) (base : Start) (seen : Seen) (r : Running) (e : Event) (made now : StepOutcome) (server : Server S) → made ≡ now
    → Makes stands cfg base seen r e made server → Makes stands cfg base seen r e now server
made_as stands cfg base seen r e made now server same m = subst (λ x. Makes stands cfg base seen r e x server) same m

-- no frame was queued for the node itself
pub back_stay : (x : Option PlainStamped) (r : Running) → x ≡ None → (refused : List ℕ) → come_back x refused r ≡ r
back_stay x r e refused = ap (λ o. come_back o refused r) e

pub back_makes : (x : Option PlainStamped) (p : PlainStamped) (r : Running) → x ≡ Some p → (refused : List ℕ) → make (Frame (dev_of 0) (stamped_bytes p)) refused r ≡ come_back x refused r
back_makes x p r e refused = ap (λ o. come_back o refused r) (sym e)

-- ---- turns

pub time_next : (last : ℕ) (answers : List ℕ) (i : ℕ) (now : List ℕ) (l : ℕ) → now ≡ drop i answers → l ≡ time_at last answers i → get_or now 0 l ≡ time_at last answers (i + 1)
unfolding time_at
time_next last answers i now l a b = ap (λ x. get_or x 0 l) a ∙ ap (λ x. get_or (drop i answers) 0 x) b ∙ ap (time_at last answers) (add_one i)

pub turn_as : (cfg : ServeConfig) (i t u : ℕ) (s v : List Arrival) (r : Running) → t ≡ u → s ≡ v → (refused : List ℕ) → turn cfg i t (next_heard (peers_of cfg) s) refused r ≡ turn cfg i u (next_heard (peers_of cfg) v) refused r
turn_as cfg i t u s v r a b refused = ap (λ x. turn cfg i x (next_heard (peers_of cfg) s) refused r) a ∙ ap (λ x. turn cfg i u (next_heard (peers_of cfg) x) refused r) b

-- no more entries were used than there are turns
pub used_more : {A : Type 0} (i n : ℕ) (old mid new : List A) → i < n → mid ≡ drop i old → (new ≡ mid) ⊎ (new ≡ drop 1 mid) → UsedUpTo n old new
used_more i n old mid new h e (inl same) = record { count = i; few = omega (arith, h); is = same ∙ e }
used_more i n old mid new h e (inr next) = record { count = i + 1; few = omega (arith, h); is = next ∙ ap (drop 1) e ∙ sym (rest_next old i) }

pub used_next : {A : Type 0} (i : ℕ) (old mid new : List A) → mid ≡ drop i old → new ≡ drop 1 mid → new ≡ drop (i + 1) old
used_next i old mid new e next = next ∙ ap (drop 1) e ∙ sym (rest_next old i)

pub time_none : (last : ℕ) (answers : List ℕ) → last ≡ time_at last answers 0
unfolding time_at
time_none last answers = refl

-- a test of the code, as the definition has it
pub is_same : (a b : ℕ) → a ≡ b → (a == b) ≡ true
is_same a b h = grind (arith, nat_tests)

pub not_same : (a b : ℕ) → a ≢ b → (a == b) ≡ false
not_same a b h = grind (arith, nat_tests)

pub some_one : (n : ℕ) → n ≢ 0 → nat_le 1 n ≡ true
some_one n h = grind (arith, nat_tests)
