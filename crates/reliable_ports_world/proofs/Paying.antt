-- Families pay no more than the ends' purses.
use Rattle.std.proofs.Common.{◌≡◌, ℕ, ◌+◌, ◌≤◌, Bool, true, false, if◌then◌else◌, List, [], ◌∷◌, map, refl, sym, subst, ◌∙◌, arith, true≢false}
use Rattle.std.specs.Prelude.{◌==◌}
use Rattle.std.specs.List.{AllByRecursion}
use Rattle.plan_base.specs.declared.ids.Family.{Family}
use Rattle.network_config.specs.declared.event.WorldEvent.{WorldEvent}
use Rattle.network_config.specs.declared.schedule.Topology.{Topology}
use Rattle.node_core_spec.specs.declared.acts.Act.TheVariants as act
use Rattle.node_core_spec.specs.Counts.{is_family, only}
use Rattle.net_world_spec.specs.declared.lines.Line.{Line}
use Rattle.net_world_spec.specs.declared.lines.Line.TheVariants as line
use Rattle.net_world_spec.specs.declared.lines.Entry.{Entry}
use Rattle.net_world_spec.specs.Counts.{granted_sum, hops, evals, tally, line_granted}
use Rattle.net_world_spec.specs.World.{WorldState, happens, entries, entry_at, history_of, opening}
use Rattle.network_config.specs.Rules.{KeepsNetwork}
use Rattle.net_world_spec.specs.Sound.{EventsFit}
use Rattle.net_world_spec.proofs.Handings.{opening_balances}
use Rattle.net_world_spec.proofs.CountLaws.{tally-nil, tally-cons, tally-append}
use Rattle.containers.proofs.Bools.{both_true}
use Rattle.std.proofs.lemmas.Bool.{eqb-true}
use Rattle.reliable_ports_world.specs.Paid.{sum_of, line_bound, event_bound, Apart, paid_by, NotRaw}
use Rattle.reliable_ports_world.proofs.Quiet.{event_grants}

-- ---- one family

family_is : (f g : Family) → is_family f g ≡ true → f ≡ g
unfolding is_family
family_is f g e =
    let t = both_true (f.source.0 == g.source.0) (f.serial == g.serial) e in
    let s : f.source.0 ≡ g.source.0 = omega (arith, eqb-true f.source.0 g.source.0 t.0) in
    let n : f.serial ≡ g.serial = omega (arith, eqb-true f.serial g.serial t.1) in
    λ i. record { source = record { 0 = s i }; serial = n i }

-- of families that aren't this one
others_none : (g : Family) (n : ℕ) (fs : List Family) → AllByRecursion (λ f. is_family g f ≡ false) fs → sum_of (λ f. only f g n) fs ≡ 0
unfolding only
others_none g n [] h = refl
others_none g n (f ∷ fs) h = by (is_family f g) refl (others_none g n fs h.1)
  where
    by : (t : Bool) → is_family f g ≡ t → sum_of (λ f. only f g n) fs ≡ 0 → (if t then n else 0) + sum_of (λ f. only f g n) fs ≡ 0
    by true e r =
        let s = family_is f g e in
        let yes : is_family g g ≡ true = subst (λ (x : Family). is_family x g ≡ true) s e in
        let no : is_family g g ≡ false = subst (λ (x : Family). is_family g x ≡ false) s h.0 in
        absurd (true≢false (sym yes ∙ no))
    by false e r = omega (arith, r)

-- of families that differ, one at most is this one
only_once : (g : Family) (n : ℕ) (fs : List Family) → Apart fs → sum_of (λ f. only f g n) fs ≤ n
unfolding only
only_once g n [] h = omega arith
only_once g n (f ∷ fs) h = by (is_family f g) refl (only_once g n fs h.1)
  where
    by : (t : Bool) → is_family f g ≡ t → sum_of (λ f. only f g n) fs ≤ n → (if t then n else 0) + sum_of (λ f. only f g n) fs ≤ n
    by true e r = let o = others_none g n fs (subst (λ (x : Family). AllByRecursion (λ y. is_family x y ≡ false) fs) (family_is f g e) h.0) in omega (arith, o)
    by false e r = omega (arith, r)

zeros : (fs : List Family) → sum_of (λ (f : Family). 0) fs ≡ 0
zeros [] = refl
zeros (f ∷ fs) = omega (arith, zeros fs)

-- ---- a line, a history

line_once : (l : Line) (fs : List Family) → Apart fs → sum_of (λ f. line_granted f l) fs ≤ line_bound l
line_once (line.At h (act.Injected g b)) fs k = only_once g b fs k
line_once (line.At h _) fs k = omega (arith, zeros fs)
line_once (line.Forged h g b) fs k = only_once g b fs k
line_once _ fs k = omega (arith, zeros fs)

sum_plus : {X : Type 0} (f g h : X → ℕ) → ((x : X) → f x ≡ g x + h x) → (xs : List X) → sum_of f xs ≡ sum_of g xs + sum_of h xs
sum_plus f g h e [] = omega arith
sum_plus f g h e (x ∷ xs) = omega (arith, e x, sum_plus f g h e xs)

sum_le : {X : Type 0} (f g : X → ℕ) → ((x : X) → f x ≤ g x) → (xs : List X) → sum_of f xs ≤ sum_of g xs
sum_le f g e [] = omega arith
sum_le f g e (x ∷ xs) = omega (arith, e x, sum_le f g e xs)

sum_same : {X : Type 0} (f g : X → ℕ) → ((x : X) → f x ≡ g x) → (xs : List X) → sum_of f xs ≡ sum_of g xs
sum_same f g e [] = refl
sum_same f g e (x ∷ xs) = omega (arith, e x, sum_same f g e xs)

history_once : (h : List Entry) (fs : List Family) → Apart fs → sum_of (λ f. granted_sum f h) fs ≤ tally line_bound h
history_once [] fs k = omega (arith, sum_same (λ f. granted_sum f []) (λ f. 0) (λ f. tally-nil (line_granted f)) fs, zeros fs)
history_once (e ∷ es) fs k =
    omega (
      arith,
      sum_plus (λ f. granted_sum f (e ∷ es)) (λ f. line_granted f e.line) (λ f. granted_sum f es) (λ f. tally-cons (line_granted f) e es) fs,
      line_once e.line fs k,
      history_once es fs k,
      tally-cons line_bound e es,
    )

entries_bound : (n : ℕ) (ls : List Line) → tally line_bound (map (entry_at n) ls) ≡ sum_of line_bound ls
entries_bound n [] = tally-nil line_bound
entries_bound n (l ∷ ls) = omega (arith, tally-cons line_bound (entry_at n l) (map (entry_at n) ls), entries_bound n ls)

pub run_grants : (es : List WorldEvent) (w : WorldState) → AllByRecursion NotRaw es → tally line_bound (history_of es w) ≤ sum_of event_bound es
unfolding history_of entries
run_grants [] w h = omega (arith, tally-nil line_bound)
run_grants (e ∷ es) w h =
    omega (arith, tally-append line_bound (map (entry_at (w.made + 1)) (happens w e).lines) (history_of es (happens w e).world), entries_bound (w.made + 1) (happens w e).lines, event_grants w e h.0, run_grants es (happens w e).world h.1)

-- families together pay no more than was injected
pub families_pay : (t : Topology) (es : List WorldEvent) (fs : List Family) → KeepsNetwork t → EventsFit t.version es → AllByRecursion NotRaw es → Apart fs → paid_by fs (history_of es (opening t)) ≤ sum_of event_bound es
families_pay t es fs net fits h k =
    let hs = history_of es (opening t) in
    omega (arith, sum_le (λ f. hops f hs + evals f hs) (λ f. granted_sum f hs) (λ f. omega (arith, (opening_balances f t es net fits).law)) fs, history_once hs fs k, run_grants es (opening t) h)
