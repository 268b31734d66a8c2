-- Runs of one event more, prefixes of what they write, and what holds after each prefix.
use Rattle.std.proofs.Common.{◌≡◌, ℕ, ◌+◌, ◌<◌, ◌≤◌, List, [], ◌∷◌, ◌++◌, length, take, drop, get_or, slice_get, Some, refl, sym, ap, ◌∙◌, append_assoc, subst}
use Rattle.std.specs.Prelude.{Bool, codes, map, All}
use Rattle.std.proofs.lemmas.List.Concat.{flat_map-append}
use Rattle.std.proofs.lemmas.List.{append-nil, take-append-drop, take_all}
use Rattle.std.proofs.lemmas.List.Elements.{All-take, All-weaker}
use Rattle.std.proofs.lemmas.Grind.{take_at_read}
use Rattle.plan_base.specs.declared.ids.Family.{Family}
use Rattle.service_api.specs.Services.{ServiceState}
use Rattle.plan_base.specs.declared.stamp.Version.{Version}
use Rattle.network_config.specs.declared.event.WorldEvent.{WorldEvent}
use Rattle.network_config.specs.declared.event.WorldEvent.TheVariants.{Inject, Send, Deliver, Repeat, Lose, Tick, Raw}
use Rattle.network_config.specs.declared.schedule.HostSpec.{HostSpec}
use Rattle.network_config.specs.declared.schedule.Schedule.{Schedule}
use Rattle.network_config.specs.declared.schedule.Topology.{Topology}
use Rattle.network_config.specs.Rules.{KeepsEvent, KeepsRules}
use Rattle.node_io.specs.Sinks.{SinkState, Writes, FailsIn}
use Rattle.node_io.proofs.SinkLaws.{writes_none, writes_both, writes_as, fails_as, fails_longer, fails_more, prefix_as, prefix_longer, prefix_more}
use Rattle.bound_ledger.specs.Rows.{FamilyRow, OneEach}
use Rattle.net_world_spec.specs.declared.lines.Line.{Line}
use Rattle.net_world_spec.specs.declared.lines.Entry.{Entry}
use Rattle.net_world_spec.specs.World.{WorldState, happens, entry_at, entries, world_after, history_of, opening}
use Rattle.net_world_spec.specs.Texts.{entry_text, entries_text, trace_text, ledger_text, run_text}
use Rattle.net_world_spec.specs.Counts.{line_left, line_sum, left_sum, is_late, Balanced, IsBounded, IsGranted}
use Rattle.net_world_spec.specs.Sound.{IsSound, event_fits, EventsFit}
use Rattle.net_world_spec.specs.Visits.{EndsWell, visits_after}
use Rattle.net_world_spec.proofs.Fitting.{run_sound, run_version}
use Rattle.net_world_spec.proofs.Handings.{opening_leaves, opening_balances}
use Rattle.net_world_spec.proofs.Giving.{opening_bounded, opening_grants}
use Rattle.net_world_spec.proofs.Opening.{opening_version, opening_sound}
use Rattle.net_world_spec.proofs.Visits.{run_ends}
use Rattle.net_world_spec.proofs.Wires.{opening_once, opening_leads}
use Rattle.net_world_spec.proofs.Reaching.{run_keeps_routes}
use Rattle.bound_ledger.specs.Counting.{LinesFit, Leaves}
use Rattle.bound_ledger.specs.Stands.{Stands}
use Rattle.trace_text.specs.Printed.{printed_row, all_printed}
use Rattle.trace_text.proofs.Printing.{printed_none, printed_next, ledger_put}
use Rattle.bound_ledger.proofs.Runs.{event_fits_at, history_of-push, world_after-push}
use Rattle.net_world.specs.declared.network.Network.{Network}
use Rattle.net_world.specs.Stands.{WorldStands}
use Rattle.net_world.specs.Running.{AllLeave, IsCountable}
use Rattle.net_world.specs.Printing.{IsWaiting, Stops}
use Rattle.net_world.specs.Keeping.{KeepsRun}
use Rattle.net_world.specs.declared.runs.RunFault.{RunFault}
use Rattle.net_world.specs.declared.runs.RunFault.TheVariants.{WriteFault, NoMemory}

pub entries_text-append : (frames : Bool) (xs ys : List Entry) → entries_text frames (xs ++ ys) ≡ entries_text frames xs ++ entries_text frames ys
unfolding entries_text
entries_text-append frames xs ys = flat_map-append (entry_text frames) xs ys

history_of-append : (es fs : List WorldEvent) (w : WorldState) → history_of (es ++ fs) w ≡ history_of es w ++ history_of fs (world_after es w)
unfolding history_of world_after
history_of-append [] fs w = refl
history_of-append (x ∷ es) fs w = ap (λ h. entries w x ++ h) (history_of-append es fs (happens w x).world) ∙ sym (append_assoc (entries w x) (history_of es (happens w x).world) (history_of fs (world_after es (happens w x).world)))

-- ---- texts that were written in part

stops_as : (fault : RunFault) (a b : SinkState) (x y : List ℕ) → x ≡ y → Stops fault x a b → Stops fault y a b
stops_as WriteFault a b x y e p = fails_as a b x y e p
stops_as NoMemory a b x y e p = prefix_as a b x y e p

stops_more : (fault : RunFault) (a b c : SinkState) (x y : List ℕ) → Writes a b x → Stops fault y b c → Stops fault (x ++ y) a c
stops_more WriteFault a b c x y w p = fails_more a b c x y w p
stops_more NoMemory a b c x y w p = prefix_more a b c x y w p

stops_longer : (fault : RunFault) (a b : SinkState) (x y : List ℕ) → Stops fault x a b → Stops fault (x ++ y) a b
stops_longer WriteFault a b x y p = fails_longer a b x y p
stops_longer NoMemory a b x y p = prefix_longer a b x y p

-- nothing waits, and all waits
pub waits_none : (a : SinkState) (bytes : List ℕ) → IsWaiting a a bytes bytes
waits_none a bytes = record { done = []; written = writes_none a; is = refl }

pub waits_written : (a b : SinkState) (left bytes : List ℕ) → left ≡ [] → Writes a b bytes → IsWaiting a b left bytes
waits_written a b left bytes e w = record { done = bytes; written = w; is = sym (append-nil bytes) ∙ ap (λ l. bytes ++ l) (sym e) }

-- one piece more
waits_more : (a b c : SinkState) (text left before piece : List ℕ) → IsWaiting a b text before → IsWaiting b c left (text ++ piece) → IsWaiting a c left (before ++ piece)
waits_more a b c text left before piece u v = record {
  done = u.done ++ v.done;
  written = writes_both a b c u.done v.done u.written v.written;
  is = ap (λ x. x ++ piece) u.is ∙ append_assoc u.done text piece ∙ ap (λ x. u.done ++ x) v.is ∙ sym (append_assoc u.done v.done left);
}

-- what waited is written, or a prefix of it
pub waited_written : (a b c : SinkState) (text whole : List ℕ) → IsWaiting a b text whole → Writes b c text → Writes a c whole
waited_written a b c text whole u w = writes_as a c (u.done ++ text) whole (sym u.is) (writes_both a b c u.done text u.written w)

pub waited_stopped : (fault : RunFault) (a b c : SinkState) (text whole : List ℕ) → IsWaiting a b text whole → Stops fault text b c → Stops fault whole a c
waited_stopped fault a b c text whole u p = stops_as fault a c (u.done ++ text) whole (sym u.is) (stops_more fault a b c u.done text u.written p)

-- what waits with one piece more, written in part
stopped_piece : (fault : RunFault) (a b c : SinkState) (text before piece rest whole : List ℕ) → whole ≡ before ++ (piece ++ rest) → IsWaiting a b text before → Stops fault (text ++ piece) b c → Stops fault whole a c
stopped_piece fault a b c text before piece rest whole e u p =
    stops_as fault a c (u.done ++ ((text ++ piece) ++ rest)) whole
    (ap (λ x. u.done ++ x) (append_assoc text piece rest) ∙ sym (append_assoc u.done text (piece ++ rest)) ∙ ap (λ x. x ++ (piece ++ rest)) (sym u.is) ∙ sym e)
    (stops_more fault a b c u.done ((text ++ piece) ++ rest) u.written (stops_longer fault b c (text ++ piece) rest p))

module _ (w : WorldState) (es : List WorldEvent) (i : ℕ) (e : WorldEvent) (within : i < length es) (is : e ≡ get_or es i e) where
  next_events : take (i + 1) es ≡ take i es ++ e ∷ []
  next_events = (take_at_read es i e within).1 ∙ ap (λ x. take i es ++ x ∷ []) (sym is)

  -- the network and the history after one more of some events
  world_next : (happens (world_after (take i es) w) e).world ≡ world_after (take (i + 1) es) w
  world_next = sym (world_after-push (take i es) e w) ∙ ap (λ x. world_after x w) (sym next_events)

  history_next : history_of (take i es) w ++ entries (world_after (take i es) w) e ≡ history_of (take (i + 1) es) w
  history_next = sym (history_of-push (take i es) e w) ∙ ap (λ x. history_of x w) (sym next_events)

  pub stands_next : {S : Type 0} (stands : S → ServiceState) (n : Network S) (k : ℕ) → k ≡ i + 1 → WorldStands stands n (happens (world_after (take i es) w) e).world → WorldStands stands n (world_after (take k es) w)
  stands_next stands n k c h = subst (WorldStands stands n) (world_next ∙ ap (λ m. world_after (take m es) w) (sym c)) h

  pub counts_next : (rows : List FamilyRow) (k : ℕ) → k ≡ i + 1 → Stands (history_of (take i es) w ++ entries (world_after (take i es) w) e) rows → Stands (history_of (take k es) w) rows
  counts_next rows k c h = subst (λ x. Stands x rows) (history_next ∙ ap (λ m. history_of (take m es) w) (sym c)) h

  module _ (frames : Bool) where
    -- the text of one more of some events
    text_more : entries_text frames (history_of (take (i + 1) es) w) ≡ entries_text frames (history_of (take i es) w) ++ entries_text frames (entries (world_after (take i es) w) e)
    text_more = ap (entries_text frames) (sym history_next) ∙ entries_text-append frames (history_of (take i es) w) (entries (world_after (take i es) w) e)

    pub waits_next : (old mid new : SinkState) (text left : List ℕ) (k : ℕ) → k ≡ i + 1 → IsWaiting old mid text (entries_text frames (history_of (take i es) w))
        → IsWaiting mid new left (text ++ entries_text frames (entries (world_after (take i es) w) e))
        → IsWaiting old new left (entries_text frames (history_of (take k es) w))
    waits_next old mid new text left k c a b = subst (IsWaiting old new left) (sym text_more ∙ ap (λ m. entries_text frames (history_of (take m es) w)) (sym c))
        (waits_more old mid new text left (entries_text frames (history_of (take i es) w)) (entries_text frames (entries (world_after (take i es) w) e)) a b)

    -- the text of some events, of one more, and of the rest
    text_split : entries_text frames (history_of es w)
        ≡ entries_text frames (history_of (take i es) w) ++ (entries_text frames (entries (world_after (take i es) w) e) ++ entries_text frames (history_of (drop (i + 1) es) (world_after (take (i + 1) es) w)))
    text_split =
        ap (λ x. entries_text frames (history_of x w)) (sym (take-append-drop (i + 1) es))
        ∙ ap (entries_text frames) (history_of-append (take (i + 1) es) (drop (i + 1) es) w)
        ∙ entries_text-append frames (history_of (take (i + 1) es) w) (history_of (drop (i + 1) es) (world_after (take (i + 1) es) w))
        ∙ ap (λ x. x ++ entries_text frames (history_of (drop (i + 1) es) (world_after (take (i + 1) es) w))) text_more
        ∙ append_assoc (entries_text frames (history_of (take i es) w)) (entries_text frames (entries (world_after (take i es) w) e)) (entries_text frames (history_of (drop (i + 1) es) (world_after (take (i + 1) es) w)))

    -- a prefix of an event's text behind that of the events before it
    pub stopped_event : (fault : RunFault) (old mid new : SinkState) (text : List ℕ) → IsWaiting old mid text (entries_text frames (history_of (take i es) w))
        → Stops fault (text ++ entries_text frames (entries (world_after (take i es) w) e)) mid new → Stops fault (entries_text frames (history_of es w)) old new
    stopped_event fault old mid new text a p = stopped_piece fault old mid new text (entries_text frames (history_of (take i es) w)) (entries_text frames (entries (world_after (take i es) w) e))
        (entries_text frames (history_of (drop (i + 1) es) (world_after (take (i + 1) es) w))) (entries_text frames (history_of es w)) text_split a p

-- before the first event
pub text_none : (frames : Bool) (w : WorldState) (es : List WorldEvent) → entries_text frames (history_of (take 0 es) w) ≡ []
unfolding history_of entries_text
text_none frames w es = refl

pub stands_none : {S : Type 0} (stands : S → ServiceState) (n : Network S) (w : WorldState) (es : List WorldEvent) → WorldStands stands n w → WorldStands stands n (world_after (take 0 es) w)
unfolding world_after
stands_none stands n w es h = h

pub counts_none : (rows : List FamilyRow) (w : WorldState) (es : List WorldEvent) → Stands [] rows → Stands (history_of (take 0 es) w) rows
unfolding history_of
counts_none rows w es h = h

-- once all events were made
pub waits_all : (frames : Bool) (w : WorldState) (es : List WorldEvent) (i : ℕ) (old new : SinkState) (text : List ℕ) → length es ≤ i
    → IsWaiting old new text (entries_text frames (history_of (take i es) w)) → IsWaiting old new text (entries_text frames (history_of es w))
waits_all frames w es i old new text h a = subst (λ x. IsWaiting old new text (entries_text frames (history_of x w))) (take_all i es h) a

pub counts_all : (rows : List FamilyRow) (w : WorldState) (es : List WorldEvent) (i : ℕ) → length es ≤ i → Stands (history_of (take i es) w) rows → Stands (history_of es w) rows
counts_all rows w es i h s = subst (λ x. Stands (history_of x w) rows) (take_all i es h) s

pub opening_made : (t : Topology) → (opening t).made ≡ 0
unfolding opening
opening_made t = refl

-- ---- the rules of a schedule

event_keeps : (v : Version) (hosts : List HostSpec) (e : WorldEvent) → KeepsEvent v hosts e → event_fits v e
event_keeps v hosts (Inject h chunk bound handler) k = k.1
event_keeps v hosts (Send h d) k = k.1
event_keeps v hosts (Deliver n) k = tt
event_keeps v hosts (Repeat n) k = k.0
event_keeps v hosts (Lose n) k = tt
event_keeps v hosts (Tick h) k = tt
event_keeps v hosts (Raw h d bytes) k = (k.1, k.2.are_bytes)

pub events_fit : (s : Schedule) → KeepsRules s → EventsFit s.topology.version s.events
events_fit s k =
    let v = s.topology.version in
    All-weaker (KeepsEvent v s.topology.hosts) (event_fits v) (event_keeps v s.topology.hosts) s.events k.events

-- the first events fit, too
events_fit_to : (s : Schedule) → KeepsRules s → (k : ℕ) → EventsFit s.topology.version (take k s.events)
events_fit_to s r k = All-take (event_fits s.topology.version) k s.events (events_fit s r)

-- the first events of a network at its beginning fit it
events_fit_there : (s : Schedule) → KeepsRules s → (k : ℕ) → EventsFit (opening s.topology).version (take k s.events)
events_fit_there s r k = subst (λ v. EventsFit v (take k s.events)) (sym (opening_version s.topology)) (events_fit_to s r k)

-- a network keeps its version
pub version_at : (s : Schedule) → KeepsRules s → (k : ℕ) → (world_after (take k s.events) (opening s.topology)).version ≡ s.topology.version
version_at s r k = run_version (take k s.events) (opening s.topology) (events_fit_there s r k) (opening_sound s.topology r.network) ∙ opening_version s.topology

-- the lines of the next event can be counted
pub countable : {S : Type 0} (stands : S → ServiceState) (n : Network S) (s : Schedule) (i : ℕ) (e : WorldEvent) (rows : List FamilyRow) → i < length s.events → e ≡ get_or s.events i e → KeepsRules s
    → WorldStands stands n (world_after (take i s.events) (opening s.topology)) → Stands (history_of (take i s.events) (opening s.topology)) rows → IsCountable stands n e rows
countable stands n s i e rows within is k h c = record {
  state = world_after (take i s.events) (opening s.topology);
  is = h;
  fits = event_fits_at s.topology s.events i e rows k.network (events_fit s k) k.few within is c;
}

-- what the next event leaves is what its lines leave by the wire
pub all_leave : (s : Schedule) (i : ℕ) (e : WorldEvent) → KeepsRules s → AllLeave (history_of (take i s.events) (opening s.topology)) (world_after (take i s.events) (opening s.topology)) e
all_leave s i e k = λ f. opening_leaves f s.topology (take i s.events) e k.network (events_fit_to s k i)

-- an event's entries are its lines with its number
pub entries_are : (w : WorldState) (e : WorldEvent) (lines : List Line) (number made : ℕ) → number ≡ made + 1 → made ≡ w.made → lines ≡ (happens w e).lines → map (entry_at number) lines ≡ entries w e
unfolding entries
entries_are w e lines number made n m l = (λ i. map (entry_at (n i)) (l i)) ∙ ap (λ k. map (entry_at (k + 1)) (happens w e).lines) m

-- lines that can be counted as those of an event, whether its frame was handed before
pub fits_as : (rows : List FamilyRow) (late now : Bool) (lines own : List Line) → late ≡ now → lines ≡ own → LinesFit now rows own → LinesFit late rows lines
fits_as rows late now lines own l e h = subst (λ b. LinesFit b rows lines) (sym l) (subst (LinesFit now rows) (sym e) h)

-- what an event's lines leave, as they are counted
pub leaves_as : (h : List Entry) (w : WorldState) (e : WorldEvent) (late : Bool) (n : ℕ) (lines : List Line) → late ≡ is_late w e → map (entry_at n) lines ≡ entries w e → lines ≡ (happens w e).lines → AllLeave h w e → Leaves late h n lines
leaves_as h w e late n lines l own is all f =
    ap (λ x. left_sum f (h ++ x)) own ∙ all f ∙ (λ i. left_sum f h + line_sum (line_left f (sym l i)) (sym is i))

-- after each prefix of the events
pub prefix_bounded : (s : Schedule) → KeepsRules s → (k : ℕ) (f : Family) → IsBounded f (history_of (take k s.events) (opening s.topology)) (world_after (take k s.events) (opening s.topology))
prefix_bounded s r k f = opening_bounded f s.topology (take k s.events) r.network (events_fit_to s r k)

pub prefix_granted : (s : Schedule) → KeepsRules s → (k : ℕ) (f : Family) → IsGranted f (history_of (take k s.events) (opening s.topology)) (world_after (take k s.events) (opening s.topology))
prefix_granted s r k f = opening_grants f s.topology (take k s.events) r.network.hosts (events_fit_to s r k)

pub prefix_balances : (s : Schedule) → KeepsRules s → (k : ℕ) (f : Family) → Balanced f (history_of (take k s.events) (opening s.topology)) (world_after (take k s.events) (opening s.topology))
prefix_balances s r k f = opening_balances f s.topology (take k s.events) r.network (events_fit_to s r k)

pub whole_balances : (s : Schedule) → KeepsRules s → (f : Family) → Balanced f (history_of s.events (opening s.topology)) (world_after s.events (opening s.topology))
whole_balances s r f = opening_balances f s.topology s.events r.network (events_fit s r)

pub prefix_sound : (s : Schedule) → KeepsRules s → (k : ℕ) → IsSound (world_after (take k s.events) (opening s.topology))
prefix_sound s r k = run_sound (take k s.events) (opening s.topology) (events_fit_there s r k) (opening_sound s.topology r.network)

pub prefix_ends : (s : Schedule) → KeepsRules s → (k : ℕ) → All EndsWell (visits_after k s.events (opening s.topology))
prefix_ends s r k = run_ends k s.events (opening s.topology) (subst (λ v. EventsFit v s.events) (sym (opening_version s.topology)) (events_fit s r)) (opening_sound s.topology r.network)

-- ---- the rows of a ledger, piece by piece

-- before the first row
pub rows_none : (rows : List FamilyRow) (text : List ℕ) (a : SinkState) → IsWaiting a a text (text ++ all_printed (take 0 rows))
rows_none rows text a = subst (IsWaiting a a text) (sym (append-nil text) ∙ ap (λ x. text ++ x) (sym printed_none)) (waits_none a text)

all_printed-append : (xs ys : List FamilyRow) → all_printed (xs ++ ys) ≡ all_printed xs ++ all_printed ys
unfolding all_printed
all_printed-append xs ys = flat_map-append printed_row xs ys

module _ (rows : List FamilyRow) (i : ℕ) (e : FamilyRow) (within : i < length rows) (is : slice_get rows i ≡ Some e) (text : List ℕ) where
  rows_more : (text ++ all_printed (take i rows)) ++ printed_row e ≡ text ++ all_printed (take (i + 1) rows)
  rows_more = printed_next rows i e text (text ++ all_printed (take i rows)) ((text ++ all_printed (take i rows)) ++ printed_row e) within is refl refl

  -- one more row
  pub rows_next : (a b c : SinkState) (waiting left : List ℕ) → IsWaiting a b waiting (text ++ all_printed (take i rows)) → IsWaiting b c left (waiting ++ printed_row e) → IsWaiting a c left (text ++ all_printed (take (i + 1) rows))
  rows_next a b c waiting left u v = subst (IsWaiting a c left) rows_more (waits_more a b c waiting left (text ++ all_printed (take i rows)) (printed_row e) u v)

  -- a prefix of a row behind those before it
  pub stopped_row : (fault : RunFault) (a b c : SinkState) (waiting : List ℕ) → IsWaiting a b waiting (text ++ all_printed (take i rows)) → Stops fault (waiting ++ printed_row e) b c → Stops fault (text ++ all_printed rows) a c
  stopped_row fault a b c waiting u p =
      let rest = all_printed (drop (i + 1) rows) in
      let split : text ++ all_printed rows ≡ (text ++ all_printed (take i rows)) ++ (printed_row e ++ rest) =
      ap (λ x. text ++ x) (ap all_printed (sym (take-append-drop (i + 1) rows)) ∙ all_printed-append (take (i + 1) rows) (drop (i + 1) rows))
      ∙ sym (append_assoc text (all_printed (take (i + 1) rows)) rest) ∙ ap (λ x. x ++ rest) (sym rows_more) ∙ append_assoc (text ++ all_printed (take i rows)) (printed_row e) rest in
      stopped_piece fault a b c waiting (text ++ all_printed (take i rows)) (printed_row e) rest (text ++ all_printed rows) split u p

-- once all rows were put
pub rows_all : (rows : List FamilyRow) (i : ℕ) (text : List ℕ) (a b : SinkState) (waiting : List ℕ) → length rows ≤ i → IsWaiting a b waiting (text ++ all_printed (take i rows)) → IsWaiting a b waiting (text ++ all_printed rows)
rows_all rows i text a b waiting h u = subst (λ x. IsWaiting a b waiting (text ++ all_printed x)) (take_all i rows h) u

-- a ledger's text at each place where its writing may end
module _ (h : List Entry) (w : WorldState) (rows : List FamilyRow) (s : Stands h rows) (law : (f : Family) → Balanced f h w) (once : OneEach rows) (begun : List ℕ) (is : begun ≡ codes "ledger\n") where
  ledger_is : (begun ++ all_printed rows) ++ codes "end\n" ≡ ledger_text h w
  ledger_is = ledger_put h w rows s law [] begun (begun ++ all_printed rows) ((begun ++ all_printed rows) ++ codes "end\n") once is refl refl

  pub stopped_rows : (fault : RunFault) (a b : SinkState) → Stops fault (begun ++ all_printed rows) a b → Stops fault (ledger_text h w) a b
  stopped_rows fault a b p = stops_as fault a b _ (ledger_text h w) ledger_is (stops_longer fault a b (begun ++ all_printed rows) (codes "end\n") p)

  module _ (a b c : SinkState) (left : List ℕ) (u : IsWaiting a b left (begun ++ all_printed rows)) where
    end_is : u.done ++ (left ++ codes "end\n") ≡ ledger_text h w
    end_is = sym (append_assoc u.done left (codes "end\n")) ∙ ap (λ x. x ++ codes "end\n") (sym u.is) ∙ ledger_is

    pub stopped_end : (fault : RunFault) → Stops fault (left ++ codes "end\n") b c → Stops fault (ledger_text h w) a c
    stopped_end fault p = stops_as fault a c _ (ledger_text h w) end_is (stops_more fault a b c u.done (left ++ codes "end\n") u.written p)

    pub ledger_written : Writes b c (left ++ codes "end\n") → Writes a c (ledger_text h w)
    ledger_written v = writes_as a c _ (ledger_text h w) end_is (writes_both a b c u.done (left ++ codes "end\n") u.written v)

abbrev header : List ℕ
header = codes "planet trace 1\n"

run_text_is : (frames : Bool) (es : List WorldEvent) (w : WorldState) → run_text frames es w ≡ (header ++ entries_text frames (history_of es w)) ++ ledger_text (history_of es w) (world_after es w)
unfolding run_text trace_text
run_text_is frames es w = refl

-- a run's text at each place where it may end
module _ (frames : Bool) (es : List WorldEvent) (w : WorldState) (a b c d : SinkState) where
  lines : List ℕ
  lines = entries_text frames (history_of es w)

  whole_is : (header ++ lines) ++ ledger_text (history_of es w) (world_after es w) ≡ run_text frames es w
  unfolding lines
  whole_is = sym (run_text_is frames es w)

  pub stopped_header : FailsIn a b (codes "planet trace 1\n") → FailsIn a b (run_text frames es w)
  stopped_header f = fails_as a b _ (run_text frames es w) whole_is (fails_longer a b (header ++ lines) (ledger_text (history_of es w) (world_after es w)) (fails_longer a b header lines f))

  pub stopped_lines : (fault : RunFault) → Writes a b (codes "planet trace 1\n") → Stops fault (entries_text frames (history_of es w)) b c → Stops fault (run_text frames es w) a c
  unfolding lines
  stopped_lines fault h p = stops_as fault a c _ (run_text frames es w) whole_is (stops_longer fault a c (header ++ lines) (ledger_text (history_of es w) (world_after es w)) (stops_more fault a b c header lines h p))

  pub stopped_ledger : (fault : RunFault) → Writes a b (codes "planet trace 1\n") → Writes b c (entries_text frames (history_of es w))
      → Stops fault (ledger_text (history_of es w) (world_after es w)) c d → Stops fault (run_text frames es w) a d
  unfolding lines
  stopped_ledger fault h l f = stops_as fault a d _ (run_text frames es w) whole_is (stops_more fault a c d (header ++ lines) (ledger_text (history_of es w) (world_after es w)) (writes_both a b c header lines h l) f)

  pub whole_run : Writes a b (codes "planet trace 1\n") → Writes b c (entries_text frames (history_of es w)) → Writes c d (ledger_text (history_of es w) (world_after es w)) → Writes a d (run_text frames es w)
  unfolding lines
  whole_run h l k = writes_as a d _ (run_text frames es w) whole_is (writes_both a c d (header ++ lines) (ledger_text (history_of es w) (world_after es w)) (writes_both a b c header lines h l) k)

-- what every run keeps
pub run_keeps : (s : Schedule) → KeepsRules s → KeepsRun s
run_keeps s h = record {
  balance = prefix_balances s h;
  bounded = prefix_bounded s h;
  granted = prefix_granted s h;
  once = λ k n. opening_once n s.topology (take k s.events);
  leads = λ k. opening_leads s.topology (take k s.events);
  sound = prefix_sound s h;
  visits = prefix_ends s h;
  routes = λ k b. run_keeps_routes s.topology (take k s.events) h.network b;
}
