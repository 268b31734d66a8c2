-- What a window does is what the numbers taken say.
use Rattle.std.proofs.Common.{◌≡◌, ◌≢◌, ℕ, ◌+◌, ◌-◌, ◌<◌, ◌≤◌, ◌%◌, Bool, true, false, ◌&&◌, List, [], ◌∷◌, length, get_or, refl, sym, ap, ◌∙◌, subst, arith}
use Rattle.std.specs.Prelude.{◌==◌, nat_le, nat_lt, if◌then◌else◌, cond, set, replicate}
use Rattle.std.proofs.lemmas.Bool.Decides.{nat_tests}
use Rattle.std.proofs.lemmas.List.{get_or-replicate, length-set, get_or-set_other}
use Rattle.std.proofs.lemmas.Grind.{get_or-set_at}
use Rattle.plan_base.specs.declared.stamp.Stamp.{Stamp}
use Rattle.replay_window.specs.declared.window.Took.TheVariants.{Fresh, Repeated, TooOld}
use Rattle.replay_window.specs.declared.window.Window.{Window}
use Rattle.replay_window.specs.Seen.{Seen, greatest, is_taken, took_number, took, seen_with}
use Rattle.replay_window.specs.Stands.{turn_of, turn_at, turn_in, WindowStands, number_took, window_took, window_with}
use Rattle.replay_window.proofs.Turns.{greatest-cons, turn_in-cons, turn_own, turn_other, turns_low, taken_by_turn}

old_is : (n top : ℕ) → (nat_le 1024 top && nat_le n (top - 1024)) ≡ nat_le (n + 1024) top
old_is n top = grind (arith, nat_tests)

not_old : (n top : ℕ) → nat_le (n + 1024) top ≡ false → top < n + 1024
not_old n top e = grind (arith, nat_tests)

-- a number of the last sender
number_judged : (seen : Seen) (w : Window) (n : ℕ) → WindowStands seen w → number_took w n ≡ took_number seen.numbers n
unfolding number_took took_number
number_judged seen w n s =
    ap (λ (b : Bool). if b then TooOld else if get_or w.turns (n % 1024) 0 == turn_of n then Repeated else Fresh) (old_is n w.top ∙ ap (nat_le (n + 1024)) s.top)
    ∙ by_cases (nat_le (n + 1024) (greatest seen.numbers)) refl where
      by_cases : (t : Bool) → nat_le (n + 1024) (greatest seen.numbers) ≡ t
          → cond t TooOld (cond (get_or w.turns (n % 1024) 0 == turn_of n) Repeated Fresh) ≡ cond t TooOld (cond (is_taken n seen.numbers) Repeated Fresh)
      by_cases true e = refl
      by_cases false e = ap (λ (b : Bool). if b then Repeated else Fresh)
          (ap (λ k. k == turn_of n) (s.turns (n % 1024) (omega arith)) ∙ sym (taken_by_turn n seen.numbers (not_old n _ e)))

pub window_judges : (seen : Seen) (w : Window) (s : Stamp) → WindowStands seen w → window_took w s ≡ took seen s
unfolding window_took took
window_judges seen w s h =
    ap (λ b. if nat_lt s.boot b then TooOld else if s.boot == b then number_took w s.link else Fresh) h.boot
    ∙ ap (λ t. if nat_lt s.boot seen.boot then TooOld else if s.boot == seen.boot then t else Fresh) (number_judged seen w s.link h)

-- nothing was taken
pub begins : (boot : ℕ) (w : Window) → w.boot ≡ boot → w.top ≡ 0 → w.turns ≡ replicate 1024 0 → WindowStands (record { boot = boot; numbers = [] }) w
unfolding greatest turn_in
begins boot w b t e = record {
  boot = b;
  top = t;
  places = ap length e;
  turns = λ i h. ap (λ ts. get_or ts i 0) e ∙ get_or-replicate 1024 i 0 0 h;
}

-- one number more that isn't too old
pub one_more : (boot : ℕ) (ns : List ℕ) (w : Window) (n : ℕ) → greatest ns < n + 1024 → WindowStands (record { boot = boot; numbers = ns }) w
    → WindowStands (record { boot = boot; numbers = n ∷ ns }) (window_with w n)
unfolding window_with
one_more boot ns w n h s = record {
  boot = s.boot;
  top = grind (arith, s.top, greatest-cons n ns);
  places = length-set w.turns (n % 1024) (turn_of n) ∙ s.places;
  turns = λ i below. at_place i below (i == n % 1024) refl;
} where
  at_place : (i : ℕ) → i < 1024 → (t : Bool) → (i == n % 1024) ≡ t → get_or (set w.turns (n % 1024) (turn_of n)) i 0 ≡ turn_in i (n ∷ ns)
  at_place i below true e =
      let own : i ≡ n % 1024 = grind (arith, nat_tests) in
      let room : n % 1024 < length w.turns = omega (arith, s.places) in
      let mine : turn_at i n ≡ turn_of n = turn_own i n (sym own) in
      let low : turn_in i ns ≤ turn_of n = subst (λ k. turn_in k ns ≤ turn_of n) (sym own) (turns_low n ns h) in
      let set_there : get_or (set w.turns (n % 1024) (turn_of n)) i 0 ≡ turn_of n = get_or-set_at w.turns (n % 1024) i (turn_of n) 0 own room in
      grind (arith, set_there, mine, low, turn_in-cons i n ns)
  at_place i below false e =
      let apart : i ≢ n % 1024 = grind (arith, nat_tests) in
      let other : turn_at i n ≡ 0 = turn_other i n (λ k. apart (sym k)) in
      let same : get_or (set w.turns (n % 1024) (turn_of n)) i 0 ≡ get_or w.turns i 0 = get_or-set_other w.turns (n % 1024) i (turn_of n) 0 apart in
      grind (arith, same, other, s.turns i below, turn_in-cons i n ns)

-- what is fresh isn't too old
fresh_number : (ns : List ℕ) (n : ℕ) → took_number ns n ≡ Fresh → greatest ns < n + 1024
unfolding took_number
fresh_number ns n e = by_cases (nat_le (n + 1024) (greatest ns)) refl e where
  by_cases : (t : Bool) → nat_le (n + 1024) (greatest ns) ≡ t → cond t TooOld (cond (is_taken n ns) Repeated Fresh) ≡ Fresh → greatest ns < n + 1024
  by_cases true q e = cc
  by_cases false q e = not_old n (greatest ns) q

-- a fresh stamp of the last sender
pub same_sender : (seen : Seen) (w : Window) (s : Stamp) → s.boot ≡ w.boot → WindowStands seen w → took seen s ≡ Fresh → WindowStands (seen_with seen s) (window_with w s.link)
unfolding took seen_with
same_sender seen w s e h f = by_cases (s.boot == seen.boot) (nat_lt s.boot seen.boot) same not_less f where
  same : (s.boot == seen.boot) ≡ true
  same = let b : s.boot ≡ seen.boot = e ∙ h.boot in grind (arith, nat_tests)

  not_less : nat_lt s.boot seen.boot ≡ false
  not_less = let b : s.boot ≡ seen.boot = e ∙ h.boot in grind (arith, nat_tests)

  by_cases : (t u : Bool) → t ≡ true → u ≡ false → cond u TooOld (cond t (took_number seen.numbers s.link) Fresh) ≡ Fresh
      → WindowStands (cond t (record { boot = s.boot; numbers = s.link ∷ seen.numbers }) (record { boot = s.boot; numbers = s.link ∷ [] })) (window_with w s.link)
  by_cases true false p q f = one_more s.boot seen.numbers w s.link (fresh_number seen.numbers s.link f) (record { boot = sym e; top = h.top; places = h.places; turns = h.turns })
  by_cases true true p q f = cc
  by_cases false u p q f = cc

none_low : (n : ℕ) → greatest [] < n + 1024
unfolding greatest
none_low n = omega arith

-- a fresh stamp of a sender that has begun anew
pub new_sender : (seen : Seen) (v w : Window) (s : Stamp) → s.boot ≢ v.boot → WindowStands seen v → w.boot ≡ s.boot → w.top ≡ 0 → w.turns ≡ replicate 1024 0
    → WindowStands (seen_with seen s) (window_with w s.link)
unfolding seen_with
new_sender seen v w s d h b t e = by_cases (s.boot == seen.boot) other where
  other : (s.boot == seen.boot) ≡ false
  other = let k : s.boot ≢ seen.boot = λ q. d (q ∙ sym h.boot) in grind (arith, nat_tests)

  by_cases : (t : Bool) → t ≡ false
      → WindowStands (cond t (record { boot = s.boot; numbers = s.link ∷ seen.numbers }) (record { boot = s.boot; numbers = s.link ∷ [] })) (window_with w s.link)
  by_cases true q = cc
  by_cases false q = one_more s.boot [] w s.link (none_low s.link) (begins s.boot w b t e)
