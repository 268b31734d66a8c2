-- How many places there are, and a place that is written.
use Rattle.std.proofs.Common.{◌≡◌, ℕ, zero, suc, ◌≤◌, ◌<◌, List, [], ◌∷◌, ◌++◌, length, Option, Some, None, refl, ap, ◌∙◌, arith}
use Rattle.std.specs.Prelude.{slice_set, get_or, replicate, ◌-◌}
use Rattle.reliable_ports.specs.Ends.{Body, ready, behind, kept_bodies, padded_bodies}

pub behind_few : (xs : List (Option Body)) → length (behind xs) ≤ length xs
behind_few [] = omega arith
behind_few (None ∷ xs) = omega arith
behind_few (Some b ∷ xs) = omega (arith, behind_few xs)

pub ready_few : (xs : List (Option Body)) → length (ready xs) ≤ length xs
ready_few [] = omega arith
ready_few (None ∷ xs) = omega arith
ready_few (Some b ∷ xs) = omega (arith, ready_few xs)

pub kept_few : (i : ℕ) (b : Body) (xs : List (Option Body)) (n : ℕ) → i < n → length xs ≤ n → length (kept_bodies i b xs) ≤ n
kept_few zero b [] n h g = omega arith
kept_few zero b (None ∷ xs) n h g = omega arith
kept_few zero b (Some c ∷ xs) n h g = omega arith
kept_few (suc i) b [] zero h g = absurd (omega arith)
kept_few (suc i) b [] (suc n) h g = omega (arith, kept_few i b [] n (omega arith) (omega arith))
kept_few (suc i) b (x ∷ xs) zero h g = absurd (omega arith)
kept_few (suc i) b (x ∷ xs) (suc n) h g = omega (arith, kept_few i b xs n (omega arith) (omega arith))

pub kept_here : (i : ℕ) (b : Body) (xs : List (Option Body)) (d : Option Body) → i < length xs → get_or xs i d ≡ None → slice_set xs i (Some b) ≡ kept_bodies i b xs
kept_here i b [] d h e = absurd (omega arith)
kept_here zero b (None ∷ xs) d h e = refl
kept_here zero b (Some c ∷ xs) d h e = absurd cc
kept_here (suc i) b (x ∷ xs) d h e = ap (λ ys. x ∷ ys) (kept_here i b xs d (omega arith) e)

pub kept_there : (i : ℕ) (b c : Body) (xs : List (Option Body)) (d : Option Body) → i < length xs → get_or xs i d ≡ Some c → xs ≡ kept_bodies i b xs
kept_there i b c [] d h e = absurd (omega arith)
kept_there zero b c (None ∷ xs) d h e = absurd cc
kept_there zero b c (Some a ∷ xs) d h e = refl
kept_there (suc i) b c (x ∷ xs) d h e = ap (λ ys. x ∷ ys) (kept_there i b c xs d (omega arith) e)

kept_none : (i : ℕ) (b : Body) → replicate i None ++ Some b ∷ [] ≡ kept_bodies i b []
kept_none zero b = refl
kept_none (suc i) b = ap (λ ys. None ∷ ys) (kept_none i b)

past : (i k : ℕ) (b : Body) (xs : List (Option Body)) → length xs ≤ i → k ≡ i - length xs → (xs ++ replicate k None) ++ Some b ∷ [] ≡ kept_bodies i b xs
past i k b [] h e = let n : k ≡ i = omega (arith, e) in ap (λ j. replicate j None ++ Some b ∷ []) n ∙ kept_none i b
past zero k b (x ∷ xs) h e = absurd (omega arith)
past (suc i) k b (x ∷ xs) h e = ap (λ ys. x ∷ ys) (past i k b xs (omega arith) (omega (arith, e)))

pub kept_past : (i : ℕ) (b : Body) (xs : List (Option Body)) → length xs ≤ i → padded_bodies i xs ++ Some b ∷ [] ≡ kept_bodies i b xs
kept_past i b xs h = past i (i - length xs) b xs h refl
