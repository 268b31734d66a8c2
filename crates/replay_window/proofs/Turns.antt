-- At its place a number was taken where it has the greatest turn there, unless it is too old.
use Rattle.std.proofs.Common.{◌≡◌, ◌≢◌, ℕ, ◌+◌, ◌<◌, ◌≤◌, ◌%◌, Bool, true, false, ◌||◌, List, [], ◌∷◌, refl, sym, ap, ◌∙◌, arith}
use Rattle.std.specs.Prelude.{max, ◌==◌, cond}
use Rattle.std.specs.List.{list_any}
use Rattle.std.proofs.lemmas.Bool.Decides.{nat_tests}
use Rattle.replay_window.specs.Seen.{greatest, is_taken}
use Rattle.replay_window.specs.Stands.{turn_of, turn_at, turn_in}

pub greatest-cons : (n : ℕ) (ns : List ℕ) → greatest (n ∷ ns) ≡ max n (greatest ns)
unfolding greatest
greatest-cons n ns = refl

pub turn_in-cons : (i n : ℕ) (ns : List ℕ) → turn_in i (n ∷ ns) ≡ max (turn_at i n) (turn_in i ns)
unfolding turn_in
turn_in-cons i n ns = refl

pub turn_own : (i n : ℕ) → n % 1024 ≡ i → turn_at i n ≡ turn_of n
unfolding turn_at
turn_own i n e = grind (arith, nat_tests)

pub turn_other : (i n : ℕ) → n % 1024 ≢ i → turn_at i n ≡ 0
unfolding turn_at
turn_other i n e = grind (arith, nat_tests)

-- a number that isn't too old has a turn above those of all others at its place
turn_low : (n m : ℕ) → m < n + 1024 → turn_at (n % 1024) m ≤ turn_of n
unfolding turn_at
turn_low n m h = by_cases (m % 1024 == n % 1024) refl where
  by_cases : (t : Bool) → (m % 1024 == n % 1024) ≡ t → cond t (turn_of m) 0 ≤ turn_of n
  by_cases true e = let s : m % 1024 ≡ n % 1024 = grind (arith, nat_tests) in omega arith
  by_cases false e = omega arith

pub turns_low : (n : ℕ) (ns : List ℕ) → greatest ns < n + 1024 → turn_in (n % 1024) ns ≤ turn_of n
unfolding turn_in greatest
turns_low n [] h = omega arith
turns_low n (m ∷ ms) h = omega (arith, turn_low n m (omega arith), turns_low n ms (omega arith))

-- another number has another turn, or another place
turn_apart : (n m : ℕ) → m < n + 1024 → m ≢ n → turn_at (n % 1024) m < turn_of n
unfolding turn_at
turn_apart n m h d = by_cases (m % 1024 == n % 1024) refl where
  by_cases : (t : Bool) → (m % 1024 == n % 1024) ≡ t → cond t (turn_of m) 0 < turn_of n
  by_cases true e = let s : m % 1024 ≡ n % 1024 = grind (arith, nat_tests) in omega arith
  by_cases false e = omega arith

max_is : (a b t : ℕ) → a < t → (max a b == t) ≡ (b == t)
max_is a b t h = grind (arith, nat_tests)

max_reached : (b t : ℕ) → b ≤ t → (max t b == t) ≡ true
max_reached b t h = grind (arith, nat_tests)

pub taken_by_turn : (n : ℕ) (ns : List ℕ) → greatest ns < n + 1024 → is_taken n ns ≡ (turn_in (n % 1024) ns == turn_of n)
unfolding is_taken turn_in greatest
taken_by_turn n [] h = grind (arith, nat_tests)
taken_by_turn n (m ∷ ms) h = by_cases (taken_by_turn n ms (omega arith)) (m == n) refl where
  by_cases : is_taken n ms ≡ (turn_in (n % 1024) ms == turn_of n) → (t : Bool) → (m == n) ≡ t
      → (t || list_any (λ k. k == n) ms) ≡ (max (turn_at (n % 1024) m) (turn_in (n % 1024) ms) == turn_of n)
  by_cases rest true e =
      let s : m ≡ n = grind (arith, nat_tests) in
      let o : turn_at (n % 1024) m ≡ turn_of n = turn_own (n % 1024) m (ap (λ k. k % 1024) s) ∙ ap turn_of s in
      sym (ap (λ a. max a (turn_in (n % 1024) ms) == turn_of n) o ∙ max_reached (turn_in (n % 1024) ms) (turn_of n) (turns_low n ms (omega arith)))
  by_cases rest false e =
      let d : m ≢ n = grind (arith, nat_tests) in
      rest ∙ sym (max_is (turn_at (n % 1024) m) (turn_in (n % 1024) ms) (turn_of n) (turn_apart n m (omega arith) d))
