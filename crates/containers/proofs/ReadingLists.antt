use Rattle.std.proofs.Common.{◌≡◌, ℕ, suc, List, [], ◌∷◌, ◌++◌, Result, Ok, Err, refl, ap, append_assoc, append-nil}
use Rattle.containers.specs.Reading.{◌>>=◌, many}

module _ {A S E : Type 0} where
  -- what was read already stands before what is read
  abbrev pub with_front : List A → Result (List A × S) E → Result (List A × S) E
  with_front xs (Ok x) = Ok (xs ++ x.0, x.1)
  with_front xs (Err e) = Err e

  -- a reader that refuses ends the list
  pub many_stops : (one : S → Result (A × S) E) (n : ℕ) (f : S) (e : E) → one f ≡ Err e → many one (suc n) f ≡ Err e
  unfolding many
  many_stops one n f e h = rw h refl

  -- one more was read
  pub many_goes_on : (one : S → Result (A × S) E) (n : ℕ) (f : S) (x : A) (g : S) (xs : List A) → one f ≡ Ok (x, g)
      → with_front (xs ++ x ∷ []) (many one n g) ≡ with_front xs (many one (suc n) f)
  unfolding many
  many_goes_on one n f x g xs h = rw h (step (many one n g))
    where
      step : (r : Result (List A × S) E) → with_front (xs ++ x ∷ []) r ≡ with_front xs (r >>= λ others. Ok (x ∷ others.0, others.1))
      step (Ok y) = ap (λ l. Ok (l, y.1)) (append_assoc xs (x ∷ []) y.0)
      step (Err e) = refl

  -- nothing is left to read
  pub many_done : (one : S → Result (A × S) E) (f : S) (xs : List A) → with_front xs (many one 0 f) ≡ Ok (xs, f)
  unfolding many
  many_done one f xs = ap (λ l. Ok (l, f)) (append-nil xs)

  -- nothing was read yet
  pub with_front-none : (r : Result (List A × S) E) → with_front [] r ≡ r
  with_front-none (Ok x) = refl
  with_front-none (Err e) = refl
