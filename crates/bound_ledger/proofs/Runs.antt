-- Runs: one event more, and what a ledger that stands for a run can count.
use Rattle.std.proofs.Common.{◌≡◌, ℕ, suc, ◌+◌, ◌≤◌, ◌<◌, Bool, true, false, if◌then◌else◌, subst, List, [], ◌∷◌, ◌++◌, length, take, get_or, refl, sym, ap, ◌∙◌, append_assoc, arith}
use Rattle.std.specs.Prelude.{fold}
use Rattle.std.specs.List.{list_any}
use Rattle.std.proofs.lemmas.List.Elements.{All-take, All-push, All-get_or}
use Rattle.std.proofs.lemmas.List.{append-nil, length-append, length-take}
use Rattle.plan_base.specs.declared.ids.Family.{Family}
use Rattle.bound_ledger.specs.Rows.{FamilyRow, families_in}
use Rattle.network_config.specs.Rules.{KeepsNetwork}
use Rattle.network_config.specs.declared.schedule.Topology.{Topology}
use Rattle.network_config.specs.declared.event.WorldEvent.{WorldEvent}
use Rattle.node_core_spec.specs.declared.acts.Act.TheVariants.{Injected, Arrived, Asked, Noted, Ended, Handled, Queued, Dropped, Bad, Misplaced, AdvertQueued, AdvertDropped, AdvertSpent, Stale, Heard, Ticked, Taken, SerialsSpent, NoMemory}
use Rattle.node_core_spec.specs.Counts.{is_family}
use Rattle.net_world_spec.specs.declared.lines.Line.{Line}
use Rattle.net_world_spec.specs.declared.lines.Line.TheVariants.{At, Forged, Wire, Off, Again, Lost, Nothing}
use Rattle.net_world_spec.specs.declared.lines.Entry.{Entry}
use Rattle.net_world_spec.specs.World.{WorldState, happens, entries, world_after, history_of, opening}
use Rattle.net_world_spec.specs.Counts.{line_granted, line_hops, line_evals, line_left, line_sum, tally, left_sum, is_late}
use Rattle.net_world_spec.specs.Sound.{event_fits, EventsFit}
use Rattle.net_world_spec.specs.Texts.{with_family, line_families, families}
use Rattle.net_world_spec.proofs.CountLaws.{tally-cons, tally-append, tally-entries}
use Rattle.net_world_spec.proofs.Handings.{opening_leaves, opening_balances}
use Rattle.net_world_spec.proofs.Giving.{opening_bounded}
use Rattle.bound_ledger.specs.Counting.{line_grants, LinesFit}
use Rattle.bound_ledger.specs.Stands.{Stands}
use Rattle.bound_ledger.proofs.Grants.{event_grants, run_grants, forged_are_grants}

-- ---- one event more

pub world_after-push : (es : List WorldEvent) (e : WorldEvent) (w : WorldState) → world_after (es ++ e ∷ []) w ≡ (happens (world_after es w) e).world
unfolding world_after
world_after-push [] e w = refl
world_after-push (x ∷ es) e w = world_after-push es e (happens w x).world

pub history_of-push : (es : List WorldEvent) (e : WorldEvent) (w : WorldState) → history_of (es ++ e ∷ []) w ≡ history_of es w ++ entries (world_after es w) e
unfolding history_of world_after
history_of-push [] e w = append-nil (entries w e)
history_of-push (x ∷ es) e w = ap (λ h. entries w x ++ h) (history_of-push es e (happens w x).world) ∙ sym (append_assoc (entries w x) (history_of es (happens w x).world) (entries (world_after es (happens w x).world) e))

tally-push : (c : Line → ℕ) (es : List WorldEvent) (e : WorldEvent) (w : WorldState) → tally c (history_of (es ++ e ∷ []) w) ≡ tally c (history_of es w) + line_sum c (happens (world_after es w) e).lines
unfolding entries
tally-push c es e w =
    let now = world_after es w in
    omega (arith, ap (tally c) (history_of-push es e w), tally-append c (history_of es w) (entries now e), tally-entries c (now.made + 1) (happens now e).lines)

-- what one event more leaves
left-push : (f : Family) (t : Topology) (es : List WorldEvent) (e : WorldEvent) → KeepsNetwork t → EventsFit t.version es
    → left_sum f (history_of (es ++ e ∷ []) (opening t)) ≡ left_sum f (history_of es (opening t)) + line_sum (line_left f (is_late (world_after es (opening t)) e)) (happens (world_after es (opening t)) e).lines
left-push f t es e k b = ap (left_sum f) (history_of-push es e (opening t)) ∙ opening_leaves f t es e k b

-- ---- a family is granted before it has a row

length-families : (fs : List Family) (f : Family) → length (with_family fs f) ≤ length fs + 1
length-families fs f = by (list_any (is_family f) fs)
  where
    by : (b : Bool) → length (if b then fs else fs ++ f ∷ []) ≤ length fs + 1
    by true = omega arith
    by false = omega (arith, length-append fs (f ∷ []))

line_adds : (fs : List Family) (l : Line) → length (line_families fs l) ≤ length fs + line_grants l
line_adds fs (At h (Injected f bound)) = length-families fs f
line_adds fs (Forged h f bound) = length-families fs f
line_adds fs (At h (Arrived d)) = omega arith
line_adds fs (At h Asked) = omega arith
line_adds fs (At h (Noted n)) = omega arith
line_adds fs (At h (Ended g o evals rest)) = omega arith
line_adds fs (At h (Handled g n bound)) = omega arith
line_adds fs (At h (Queued d g bound)) = omega arith
line_adds fs (At h (Dropped r g bound)) = omega arith
line_adds fs (At h (Bad e)) = omega arith
line_adds fs (At h Misplaced) = omega arith
line_adds fs (At h (AdvertQueued d)) = omega arith
line_adds fs (At h (AdvertDropped d)) = omega arith
line_adds fs (At h (AdvertSpent d)) = omega arith
line_adds fs (At h (Stale t w)) = omega arith
line_adds fs (At h (Heard d)) = omega arith
line_adds fs (At h (Ticked n)) = omega arith
line_adds fs (At h (Taken d w)) = omega arith
line_adds fs (At h SerialsSpent) = omega arith
line_adds fs (At h NoMemory) = omega arith
line_adds fs (Wire n bytes) = omega arith
line_adds fs (Off n) = omega arith
line_adds fs (Again n) = omega arith
line_adds fs (Lost w) = omega arith
line_adds fs Nothing = omega arith

families_added : (h : List Entry) (fs : List Family) → length (fold (λ gs e. line_families gs e.line) fs h) ≤ length fs + tally line_grants h
families_added [] fs = omega arith
families_added (e ∷ es) fs = omega (arith, families_added es (line_families fs e.line), line_adds fs e.line, tally-cons line_grants e es)

none_before : (a b : ℕ) → a ≤ 0 + b → a ≤ b
none_before a b h = omega arith

few_families : (h : List Entry) → length (families h) ≤ tally line_grants h
unfolding families
few_families h = none_before _ _ (families_added h [])

length-families_in : (rows : List FamilyRow) → length (families_in rows) ≡ length rows
length-families_in [] = refl
length-families_in (e ∷ es) = ap suc (length-families_in es)

-- ---- the lines of each event of a run can be counted

pub event_fits_ledger : (t : Topology) (es : List WorldEvent) (e : WorldEvent) (rows : List FamilyRow) → KeepsNetwork t → EventsFit t.version es → event_fits t.version e → length es < 50000
    → Stands (history_of es (opening t)) rows → LinesFit (is_late (world_after es (opening t)) e) rows (happens (world_after es (opening t)) e).lines
event_fits_ledger t es e rows k before fits few s =
    let w = opening t in
    let now = world_after es w in
    let all : EventsFit t.version (es ++ e ∷ []) = All-push (event_fits t.version) es e before fits in
    let once = event_grants t.version now e fits in
    let grants = run_grants t.version es w before in
    let grants_more = tally-push line_grants es e w in
    record {
      grants = record {
        few = omega (arith, few, once, grants, few_families (history_of es w), ap length s.families, length-families_in rows);
        limit = λ f.
            let bounded = opening_bounded f t (es ++ e ∷ []) k all in
            let forged = forged_are_grants f (history_of (es ++ e ∷ []) w) in
            omega (arith, few, once, grants, grants_more, forged, bounded.once, bounded.limit, (s.counts f).granted, tally-push (line_granted f) es e w);
      };
      moves = λ f. omega (
        arith,
        (opening_balances f t (es ++ e ∷ []) k all).law,
        (s.counts f).live,
        tally-push (line_granted f) es e w,
        tally-push (line_hops f) es e w,
        tally-push (line_evals f) es e w,
        left-push f t es e k before,
      );
    }

-- the same for the event at a place
pub event_fits_at : (t : Topology) (es : List WorldEvent) (i : ℕ) (e : WorldEvent) (rows : List FamilyRow) → KeepsNetwork t → EventsFit t.version es → length es ≤ 50000 → i < length es → e ≡ get_or es i e
    → Stands (history_of (take i es) (opening t)) rows → LinesFit (is_late (world_after (take i es) (opening t)) e) rows (happens (world_after (take i es) (opening t)) e).lines
event_fits_at t es i e rows k all few within is s =
    let fits : EventsFit t.version (take i es) = All-take (event_fits t.version) i es all in
    let own : event_fits t.version e = subst (event_fits t.version) (sym is) (All-get_or (event_fits t.version) es i e within all) in
    event_fits_ledger t (take i es) e rows k fits own (omega (arith, length-take i es)) s
