-- What isn't fresh stays so.
use Rattle.std.proofs.Common.{◌≡◌, ◌≢◌, ℕ, ◌+◌, ◌<◌, ◌≤◌, Bool, true, false, ◌||◌, List, [], ◌∷◌, refl, sym, ap, ◌∙◌, arith}
use Rattle.std.specs.Prelude.{◌==◌, nat_le, nat_lt, if◌then◌else◌, cond}
use Rattle.std.specs.List.{list_any}
use Rattle.std.proofs.lemmas.Bool.Decides.{nat_tests}
use Rattle.plan_base.specs.declared.stamp.Stamp.{Stamp}
use Rattle.replay_window.specs.declared.window.Took.{Took}
use Rattle.replay_window.specs.declared.window.Took.TheVariants.{Fresh, Repeated, TooOld}
use Rattle.replay_window.specs.Seen.{Seen, greatest, is_taken, took_number, took, seen_with, seen_by, seen_after, is_fresh}
use Rattle.replay_window.proofs.Turns.{greatest-cons}

-- why a stamp isn't fresh
data IsStale (seen : Seen) (s : Stamp) : Type 0 where
  before : s.boot < seen.boot → IsStale seen s
  low : s.boot ≡ seen.boot → s.link + 1024 ≤ greatest seen.numbers → IsStale seen s
  again : s.boot ≡ seen.boot → is_taken s.link seen.numbers ≡ true → IsStale seen s

number_stale : (seen : Seen) (s : Stamp) → s.boot ≡ seen.boot → is_fresh (took_number seen.numbers s.link) ≡ false → IsStale seen s
unfolding took_number
number_stale seen s b e = by_cases (nat_le (s.link + 1024) (greatest seen.numbers)) (is_taken s.link seen.numbers) refl refl e where
  by_cases : (t u : Bool) → nat_le (s.link + 1024) (greatest seen.numbers) ≡ t → is_taken s.link seen.numbers ≡ u
      → is_fresh (cond t TooOld (cond u Repeated Fresh)) ≡ false → IsStale seen s
  by_cases true u p q e = low b (grind (arith, nat_tests))
  by_cases false true p q e = again b q
  by_cases false false p q e = cc

stale_of : (seen : Seen) (s : Stamp) → is_fresh (took seen s) ≡ false → IsStale seen s
unfolding took
stale_of seen s e = by_cases (nat_lt s.boot seen.boot) (s.boot == seen.boot) refl refl e where
  by_cases : (t u : Bool) → nat_lt s.boot seen.boot ≡ t → (s.boot == seen.boot) ≡ u
      → is_fresh (cond t TooOld (cond u (took_number seen.numbers s.link) Fresh)) ≡ false → IsStale seen s
  by_cases true u p q e = before (grind (arith, nat_tests))
  by_cases false true p q e = number_stale seen s (grind (arith, nat_tests)) e
  by_cases false false p q e = cc

not_fresh : (seen : Seen) (s : Stamp) → s.boot ≡ seen.boot → is_fresh (took_number seen.numbers s.link) ≡ false → is_fresh (took seen s) ≡ false
unfolding took
not_fresh seen s b e = by_cases (nat_lt s.boot seen.boot) (s.boot == seen.boot) (grind (arith, nat_tests)) where
  by_cases : (t u : Bool) → u ≡ true → is_fresh (cond t TooOld (cond u (took_number seen.numbers s.link) Fresh)) ≡ false
  by_cases true u p = refl
  by_cases false true p = e
  by_cases false false p = cc

is_stale : (seen : Seen) (s : Stamp) → IsStale seen s → is_fresh (took seen s) ≡ false
unfolding took took_number
is_stale seen s (before h) = ap (λ b. is_fresh (cond b TooOld (if s.boot == seen.boot then took_number seen.numbers s.link else Fresh))) (less s.boot seen.boot h) where
  less : (a b : ℕ) → a < b → nat_lt a b ≡ true
  less a b h = grind (arith, nat_tests)
is_stale seen s (low b h) = not_fresh seen s b (ap (λ b. is_fresh (cond b TooOld (if is_taken s.link seen.numbers then Repeated else Fresh))) (at_most (s.link + 1024) (greatest seen.numbers) h)) where
  at_most : (a b : ℕ) → a ≤ b → nat_le a b ≡ true
  at_most a b h = grind (arith, nat_tests)
is_stale seen s (again b h) = not_fresh seen s b (by_cases (nat_le (s.link + 1024) (greatest seen.numbers)) (is_taken s.link seen.numbers) h) where
  by_cases : (t u : Bool) → u ≡ true → is_fresh (cond t TooOld (cond u Repeated Fresh)) ≡ false
  by_cases true u p = refl
  by_cases false true p = refl
  by_cases false false p = cc

taken_more : (n m : ℕ) (ns : List ℕ) → is_taken n ns ≡ true → is_taken n (m ∷ ns) ≡ true
unfolding is_taken
taken_more n m ns e = by_cases (m == n) where
  by_cases : (t : Bool) → (t || list_any (λ k. k == n) ns) ≡ true
  by_cases true = refl
  by_cases false = e

taken_first : (n : ℕ) (ns : List ℕ) → is_taken n (n ∷ ns) ≡ true
unfolding is_taken
taken_first n ns = ap (λ b. b || list_any (λ k. k == n) ns) (same n) where
  same : (n : ℕ) → (n == n) ≡ true
  same n = grind (arith, nat_tests)

-- another fresh stamp was taken
with_stale : (seen : Seen) (s t : Stamp) → seen.boot ≤ t.boot → IsStale seen s → IsStale (seen_with seen t) s
unfolding seen_with
with_stale seen s t l h = by_cases h (t.boot == seen.boot) refl where
  by_cases : IsStale seen s → (b : Bool) → (t.boot == seen.boot) ≡ b
      → IsStale (cond b (record { boot = t.boot; numbers = t.link ∷ seen.numbers }) (record { boot = t.boot; numbers = t.link ∷ [] })) s
  by_cases (before h) true e = before (omega arith)
  by_cases (low b h) true e = low (let same : t.boot ≡ seen.boot = grind (arith, nat_tests) in b ∙ sym same) (omega (arith, h, greatest-cons t.link seen.numbers))
  by_cases (again b h) true e = again (let same : t.boot ≡ seen.boot = grind (arith, nat_tests) in b ∙ sym same) (taken_more s.link t.link seen.numbers h)
  by_cases (before h) false e = before (omega arith)
  by_cases (low b h) false e = before (let apart : t.boot ≢ seen.boot = grind (arith, nat_tests) in omega arith)
  by_cases (again b h) false e = before (let apart : t.boot ≢ seen.boot = grind (arith, nat_tests) in omega arith)

-- a fresh stamp is of the last sender, or of a later beginning
fresh_later : (seen : Seen) (t : Stamp) → took seen t ≡ Fresh → seen.boot ≤ t.boot
unfolding took
fresh_later seen t f = by_cases (nat_lt t.boot seen.boot) (t.boot == seen.boot) refl f where
  by_cases : (b u : Bool) → nat_lt t.boot seen.boot ≡ b → cond b TooOld (cond u (took_number seen.numbers t.link) Fresh) ≡ Fresh → seen.boot ≤ t.boot
  by_cases true u p f = cc
  by_cases false u p f = grind (arith, nat_tests)

pub stays : (seen : Seen) (s t : Stamp) → is_fresh (took seen s) ≡ false → is_fresh (took (seen_after seen t) s) ≡ false
stays seen s t e = by_cases (took seen t) refl where
  by_cases : (k : Took) → took seen t ≡ k → is_fresh (took (seen_by k seen t) s) ≡ false
  by_cases Fresh f = is_stale (seen_with seen t) s (with_stale seen s t (fresh_later seen t f) (stale_of seen s e))
  by_cases Repeated f = e
  by_cases TooOld f = e

with_own : (seen : Seen) (s : Stamp) → IsStale (seen_with seen s) s
unfolding seen_with
with_own seen s = by_cases (s.boot == seen.boot) where
  by_cases : (b : Bool) → IsStale (cond b (record { boot = s.boot; numbers = s.link ∷ seen.numbers }) (record { boot = s.boot; numbers = s.link ∷ [] })) s
  by_cases true = again refl (taken_first s.link seen.numbers)
  by_cases false = again refl (taken_first s.link [])

pub stale_once_seen : (seen : Seen) (s : Stamp) → is_fresh (took (seen_after seen s) s) ≡ false
stale_once_seen seen s = by_cases (took seen s) refl where
  by_cases : (k : Took) → took seen s ≡ k → is_fresh (took (seen_by k seen s) s) ≡ false
  by_cases Fresh f = is_stale (seen_with seen s) s (with_own seen s)
  by_cases Repeated f = ap is_fresh f
  by_cases TooOld f = ap is_fresh f
