use Rattle.std.specs.Prelude.{ℕ, zero, suc, List, [], ◌∷◌, Result, Ok, Err}

infixl 10 ◌>>=◌
-- the second reads on where the first came to; a fault ends the reading
abbrev pub ◌>>=◌ : {A B E : Type 0} → Result A E → (A → Result B E) → Result B E
Ok x >>= h = h x
Err e >>= h = Err e

-- n things read one after another, as a list
unfoldable pub many : {A S E : Type 0} → (S → Result (A × S) E) → ℕ → S → Result (List A × S) E
many one zero f = Ok ([], f)
many one (suc n) f = do
  first ← one f
  others ← many one n first.1
  Ok (first.0 ∷ others.0, others.1)
