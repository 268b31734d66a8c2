-- What is there of a key's parts.
use Rattle.std.proofs.Common.{◌≡◌, ◌≢◌, ℕ, suc, ◌+◌, ◌≤◌, true, false, if◌then◌else◌, List, [], ◌∷◌, ◌++◌, length, Option, Some, None, is_some, refl, sym, ap, ◌∙◌, arith}
use Rattle.std.specs.Prelude.{ℤ}
use Rattle.std.specs.List.{list_all}
use Rattle.frag_chunks.specs.declared.gather.Held.TheVariants as held
use Rattle.frag_chunks.specs.declared.holding.PartialMessage.TheVariants as holding
use Rattle.frag_chunks.specs.Gathers.{filled_parts, joined_pieces, held_of}

pub filled_few : (xs : List (Option (List ℕ))) → filled_parts xs ≤ length xs
filled_few [] = omega arith
filled_few (None ∷ xs) = omega (arith, filled_few xs)
filled_few (Some d ∷ xs) = omega (arith, filled_few xs)

is_whole : (xs : List (Option (List ℕ))) → filled_parts xs ≡ length xs → list_all is_some xs ≡ true
is_whole [] e = refl
is_whole (None ∷ xs) e = absurd (omega (arith, filled_few xs))
is_whole (Some d ∷ xs) e = is_whole xs (omega arith)

is_open : (xs : List (Option (List ℕ))) → filled_parts xs ≢ length xs → list_all is_some xs ≡ false
is_open [] e = absurd (e refl)
is_open (None ∷ xs) e = refl
is_open (Some d ∷ xs) e = is_open xs (λ s. e (ap suc s))

pub all_there : (k : ℤ) (xs : List (Option (List ℕ))) (d : List ℕ) → filled_parts xs ≡ length xs → d ≡ joined_pieces xs → held.Whole k d ≡ held_of k (holding.Open xs)
all_there k xs d e s = ap (held.Whole k) s ∙ sym (ap (λ t. if t then held.Whole k (joined_pieces xs) else held.Missing k (filled_parts xs) (length xs)) (is_whole xs e))

pub not_all : (k : ℤ) (xs : List (Option (List ℕ))) (n : ℕ) → filled_parts xs ≢ length xs → n ≡ filled_parts xs → held.Missing k n (length xs) ≡ held_of k (holding.Open xs)
not_all k xs n e s = ap (λ i. held.Missing k i (length xs)) s ∙ sym (ap (λ t. if t then held.Whole k (joined_pieces xs) else held.Missing k (filled_parts xs) (length xs)) (is_open xs e))

pub filled_more : (xs : List (Option (List ℕ))) (s : Option (List ℕ)) → filled_parts (xs ++ s ∷ []) ≡ filled_parts xs + (if is_some s then 1 else 0)
filled_more [] None = refl
filled_more [] (Some d) = refl
filled_more (None ∷ xs) s = filled_more xs s
filled_more (Some d ∷ xs) s = omega (arith, filled_more xs s)
