-- That a run only goes on.
use Rattle.std.proofs.Common.{◌≡◌, ℕ, zero, suc, ◌+◌, Bool, true, false, if◌then◌else◌, List, [], ◌∷◌, ◌++◌, length, slice_get, nat_le, ◌==◌, drop, Option, Some, None, refl, sym, ◌∙◌, ap, subst}
use Rattle.std.proofs.Common.{arith, append_assoc, append-nil, length-append}
use Rattle.plan_base.specs.declared.ids.Dev.{Dev}
use Rattle.packet_frame.specs.declared.frame.PlainStamped.{PlainStamped}
use Rattle.packet_frame.specs.Stamped.{stamped_bytes}
use Rattle.network_config.specs.declared.serve.Inject.{Inject as Injection}
use Rattle.network_config.specs.Hosts.{dev_of}
use Rattle.network_config.specs.declared.event.Event.{Event}
use Rattle.network_config.specs.declared.event.Event.TheVariants.{Inject, Frame, Tick, Take}
use Rattle.network_config.specs.declared.event.LogEvent.{LogEvent}
use Rattle.network_config.specs.declared.event.LogEvent.TheVariants.{Step, Lost}
use Rattle.network_config.specs.declared.serve.ServeConfig.{ServeConfig}
use Rattle.node_io.specs.declared.link.Peer.{Peer}
use Rattle.node_io.specs.declared.link.Arrival.{Arrival}
use Rattle.node_io.specs.Links.{Heard, has_peer, next_heard}
use Rattle.node_core_spec.specs.State.{NodeState}
use Rattle.node_log.specs.Runs.{acts_of, node_by, entries_at, played_entries, node_after, Running, opened_run, with_entry, marked_running, holding, with_sent, Action, then_do, is_refused, make, tick}
use Rattle.node_log.specs.Runs.{inject_one, inject_to, arrival, hear, first_on, queued_on, come_back, take_back, loop_back, send_taken, take_send, repeat_send, flush_device, flush_to, release, flush}
use Rattle.node_log.specs.Runs.{begin_turn, end_turn, turn, turns, node_run, peers_of, time_at}
use Rattle.node_log.specs.Follow.{Ext, Grows}

-- ---- what entries of a log give

trans : {A : Type 0} {a b c : A} → a ≡ b → b ≡ c → a ≡ c
trans x y = x ∙ y

pub played_more : (n : ℕ) (node : NodeState) (es fs : List LogEvent) → played_entries n node (es ++ fs) ≡ played_entries n node es ++ played_entries (n + length es) (node_after node es) fs
unfolding played_entries node_after
played_more n node [] fs = ap (λ k. played_entries k node fs) (omega arith)
played_more n node (e ∷ es) fs =
    let again = played_more (n + 1) (node_by node e) es fs in
    let number : n + 1 + length es ≡ n + length (e ∷ es) = omega arith in
    let now = entries_at (n + 1) (acts_of node e) in
    let moved = ap (λ k. played_entries (n + 1) (node_by node e) es ++ played_entries k (node_after (node_by node e) es) fs) number in
    trans (ap (λ l. now ++ l) (trans again moved)) (sym (append_assoc now (played_entries (n + 1) (node_by node e) es) (played_entries (n + length (e ∷ es)) (node_after (node_by node e) es) fs)))

pub after_more : (node : NodeState) (es fs : List LogEvent) → node_after node (es ++ fs) ≡ node_after (node_after node es) fs
unfolding node_after
after_more node [] fs = refl
after_more node (e ∷ es) fs = after_more (node_by node e) es fs

-- ---- a run goes on

pub ext_refl : (r : Running) → Ext r r
unfolding played_entries node_after
ext_refl r = record {
  events = [];
  sent = [];
  log = sym (append-nil r.events);
  frames = sym (append-nil r.sent);
  lines = sym (append-nil r.entries);
  node = refl;
}

appends_compose : {A : Type 0} (a b c more later : List A) → b ≡ a ++ more → c ≡ b ++ later → c ≡ a ++ (more ++ later)
appends_compose a b c more later x y = trans y (trans (ap (λ l. l ++ later) x) (append_assoc a more later))

pub ext_trans : (a b c : Running) → Ext a b → Ext b c → Ext a c
ext_trans a b c x y =
    let count : length b.events ≡ length a.events + length x.events = trans (ap length x.log) (length-append a.events x.events) in
    let later : played_entries (length b.events) b.node y.events ≡ played_entries (length a.events + length x.events) (node_after a.node x.events) y.events = trans
    (ap (λ n. played_entries n b.node y.events) count)
    (ap (λ node. played_entries (length a.events + length x.events) node y.events) x.node) in
    let lines = appends_compose a.entries b.entries c.entries (played_entries (length a.events) a.node x.events) (played_entries (length b.events) b.node y.events) x.lines y.lines in
    let first = played_entries (length a.events) a.node x.events in
    record {
      events = x.events ++ y.events;
      sent = x.sent ++ y.sent;
      log = appends_compose a.events b.events c.events x.events y.events x.log y.log;
      frames = appends_compose a.sent b.sent c.sent x.sent y.sent x.frames y.frames;
      lines = trans lines (ap (λ l. a.entries ++ l) (trans (ap (λ l. first ++ l) later) (sym (played_more (length a.events) a.node x.events y.events))));
      node = trans y.node (trans (ap (λ node. node_after node y.events) x.node) (sym (after_more a.node x.events y.events)));
    }

pub ext_entry : (e : LogEvent) (r : Running) → Ext r (with_entry e r)
unfolding with_entry played_entries node_after
ext_entry e r = record {
  events = e ∷ [];
  sent = [];
  log = refl;
  frames = sym (append-nil r.sent);
  lines = ap (λ l. r.entries ++ l) (sym (append-nil (entries_at (length r.events + 1) (acts_of r.node e))));
  node = refl;
}

pub ext_marked : (t : ℕ) (r : Running) → Ext r (marked_running t r)
ext_marked t r = let same = ext_refl r in record { events = same.events; sent = same.sent; log = same.log; frames = same.frames; lines = same.lines; node = same.node }

pub ext_holding : (b : Bool) (r : Running) → Ext r (holding b r)
ext_holding b r = let same = ext_refl r in record { events = same.events; sent = same.sent; log = same.log; frames = same.frames; lines = same.lines; node = same.node }

pub ext_sent : (d : Dev) (x : PlainStamped) (r : Running) → Ext r (with_sent d x r)
ext_sent d x r = let same = ext_refl r in record { events = same.events; sent = (d, stamped_bytes x) ∷ []; log = same.log; frames = refl; lines = same.lines; node = same.node }

-- ---- whatever is refused

pub grows_then : (f g : Action) → Grows f → Grows g → Grows (then_do f g)
grows_then f g x y refused r = ext_trans r (f refused r) (g refused (f refused r)) (x refused r) (y refused (f refused r))

either : (b : Bool) (r x y : Running) → Ext r x → Ext r y → Ext r (if b then x else y)
either true r x y h k = h
either false r x y h k = k

pub make_grows : (e : Event) → Grows (make e)
unfolding make
make_grows e refused r = ext_entry (if is_refused refused r then Lost else Step e) r

pub tick_grows : (period t : ℕ) → Grows (tick period t)
unfolding tick
tick_grows period t refused r = either (nat_le (r.last + period) t) r (marked_running t (make Tick refused r)) r
    (ext_trans r (make Tick refused r) (marked_running t (make Tick refused r)) (make_grows Tick refused r) (ext_marked t (make Tick refused r))) (ext_refl r)

pub inject_one_grows : (turn : ℕ) (x : Option Injection) → Grows (inject_one turn x)
inject_one_grows turn None refused r = ext_refl r
inject_one_grows turn (Some x) refused r = either (x.turn == turn) r (make (Inject x.chunk x.bound x.handler) refused r) r (make_grows (Inject x.chunk x.bound x.handler) refused r) (ext_refl r)

pub inject_to_grows : (turn : ℕ) (at : List Injection) (n : ℕ) → Grows (inject_to turn at n)
unfolding inject_to
inject_to_grows turn at zero refused r = ext_refl r
inject_to_grows turn at (suc n) refused r = grows_then (inject_to turn at n) (inject_one turn (slice_get at n)) (inject_to_grows turn at n) (inject_one_grows turn (slice_get at n)) refused r

pub hear_grows : (h : Option Heard) → Grows (hear h)
hear_grows None refused r = ext_refl r
hear_grows (Some x) refused r = make_grows (arrival x) refused r

pub come_back_grows : (x : Option PlainStamped) → Grows (come_back x)
come_back_grows None refused r = ext_refl r
come_back_grows (Some x) refused r = make_grows (Frame (dev_of 0) (stamped_bytes x)) refused r

pub take_back_grows : Grows take_back
unfolding take_back
take_back_grows refused r =
    let taken = with_entry (Step (Take (dev_of 0))) r in
    let x = first_on r.node (dev_of 0) in
    either (is_refused refused r) r (with_entry Lost r) (come_back x refused taken) (ext_entry Lost r)
    (ext_trans r taken (come_back x refused taken) (ext_entry (Step (Take (dev_of 0))) r) (come_back_grows x refused taken))

pub loop_back_grows : Grows loop_back
unfolding loop_back
loop_back_grows refused r = either (nat_le 1 (queued_on r.node (dev_of 0))) r (take_back refused r) r (take_back_grows refused r) (ext_refl r)

pub send_taken_ext : (d : Dev) (x : Option PlainStamped) (r : Running) → Ext r (send_taken d x r)
send_taken_ext d None r = ext_refl r
send_taken_ext d (Some x) r = ext_sent d x r

pub take_send_grows : (d : Dev) → Grows (take_send d)
unfolding take_send
take_send_grows d refused r =
    let taken = with_entry (Step (Take d)) r in
    let x = first_on r.node d in
    either r.held r r (if is_refused refused r then holding true (with_entry Lost r) else send_taken d x taken) (ext_refl r)
    (either (is_refused refused r) r (holding true (with_entry Lost r)) (send_taken d x taken)
    (ext_trans r (with_entry Lost r) (holding true (with_entry Lost r)) (ext_entry Lost r) (ext_holding true (with_entry Lost r)))
    (ext_trans r taken (send_taken d x taken) (ext_entry (Step (Take d)) r) (send_taken_ext d x taken)))

pub repeat_send_grows : (d : Dev) (n : ℕ) → Grows (repeat_send d n)
unfolding repeat_send
repeat_send_grows d zero refused r = ext_refl r
repeat_send_grows d (suc n) refused r = grows_then (repeat_send d n) (take_send d) (repeat_send_grows d n) (take_send_grows d) refused r

pub flush_device_grows : (peers : List Peer) (d : Dev) → Grows (flush_device peers d)
unfolding flush_device
flush_device_grows peers d refused r = either (has_peer peers d) r (repeat_send d (queued_on r.node d) refused r) r (repeat_send_grows d (queued_on r.node d) refused r) (ext_refl r)

pub flush_to_grows : (peers : List Peer) (n : ℕ) → Grows (flush_to peers n)
unfolding flush_to
flush_to_grows peers zero refused r = ext_refl r
flush_to_grows peers (suc n) refused r = grows_then (flush_to peers n) (flush_device peers (dev_of (n + 1))) (flush_to_grows peers n) (flush_device_grows peers (dev_of (n + 1))) refused r

pub flush_grows : (peers : List Peer) → Grows (flush peers)
flush_grows peers = grows_then release (flush_to peers 8) (λ refused r. ext_holding false r) (flush_to_grows peers 8)

pub begin_turn_grows : (cfg : ServeConfig) (i t : ℕ) → Grows (begin_turn cfg i t)
begin_turn_grows cfg i t = grows_then (tick cfg.period t) (inject_to i cfg.at (length cfg.at)) (tick_grows cfg.period t) (inject_to_grows i cfg.at (length cfg.at))

pub end_turn_grows : (peers : List Peer) → Grows (end_turn peers)
end_turn_grows peers = grows_then loop_back (flush peers) loop_back_grows (flush_grows peers)

pub turn_grows : (cfg : ServeConfig) (i t : ℕ) (h : Option Heard) → Grows (turn cfg i t h)
turn_grows cfg i t h = grows_then (begin_turn cfg i t) (then_do (hear h) (end_turn (peers_of cfg))) (begin_turn_grows cfg i t)
    (grows_then (hear h) (end_turn (peers_of cfg)) (hear_grows h) (end_turn_grows (peers_of cfg)))

-- the turns up to a number go on from those up to a lower one
pub turns_more : (cfg : ServeConfig) (script : List Arrival) (last : ℕ) (answers : List ℕ) (refused : List ℕ) (r : Running) (n more : ℕ) → Ext (turns cfg script last answers n refused r) (turns cfg script last answers (n + more) refused r)
unfolding turns
turns_more cfg script last answers refused r n zero =
    let same : n ≡ n + 0 = omega arith in
    subst (λ k. Ext (turns cfg script last answers n refused r) (turns cfg script last answers k refused r)) same (ext_refl (turns cfg script last answers n refused r))
turns_more cfg script last answers refused r n (suc more) =
    let same : suc (n + more) ≡ n + suc more = omega arith in
    let before = turns cfg script last answers (n + more) refused r in
    let next = turn cfg (n + more + 1) (time_at last answers (n + more + 1)) (next_heard (peers_of cfg) (drop (n + more) script)) in
    subst (λ k. Ext (turns cfg script last answers n refused r) (turns cfg script last answers k refused r)) same
    (ext_trans (turns cfg script last answers n refused r) before (next refused before) (turns_more cfg script last answers refused r n more)
    (turn_grows cfg (n + more + 1) (time_at last answers (n + more + 1)) (next_heard (peers_of cfg) (drop (n + more) script)) refused before))

pub turns_grows : (cfg : ServeConfig) (script : List Arrival) (last : ℕ) (answers : List ℕ) (n : ℕ) → Grows (turns cfg script last answers n)
unfolding turns
turns_grows cfg script last answers zero refused r = ext_refl r
turns_grows cfg script last answers (suc n) refused r =
    grows_then (turns cfg script last answers n) (turn cfg (n + 1) (time_at last answers (n + 1)) (next_heard (peers_of cfg) (drop n script))) (turns_grows cfg script last answers n)
    (turn_grows cfg (n + 1) (time_at last answers (n + 1)) (next_heard (peers_of cfg) (drop n script))) refused r

-- the lines of a run are those of its log
pub lines_of_run : (cfg : ServeConfig) (node : NodeState) (script : List Arrival) (last : ℕ) (answers : List ℕ) (n : ℕ) (refused : List ℕ)
    → (node_run cfg node script last answers n refused).entries ≡ played_entries 0 node (node_run cfg node script last answers n refused).events
unfolding node_run
lines_of_run cfg node script last answers n refused =
    let x = turns_grows cfg script last answers n refused (opened_run node) in
    trans x.lines (ap (λ es. played_entries 0 node es) (sym x.log))
