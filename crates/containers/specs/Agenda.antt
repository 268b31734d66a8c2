use Rattle.std.specs.Prelude.{◌≡◌, ℕ, zero, suc, List, ◌∷◌, Result, Ok, Err}

-- an item n times, before what was to come
abbrev pub times : {I : Type 0} → ℕ → I → List I → List I
times zero i more = more
times (suc n) i more = i ∷ times n i more

-- The agenda is the list of what must still be read. A step reads from its first item: it refuses, or says
-- what must be read now and where. e is the fault of the first step that refuses.
pub data FirstFault {I S E : Type 0} (step : I → List I → S → Result (List I × S) E) (e : E) : List I → S → Type 0 where
  here : (i : I) (more : List I) (f : S) → step i more f ≡ Err e → FirstFault step e (i ∷ more) f
  later : (i : I) (more : List I) (f : S) (next : List I) (g : S) → step i more f ≡ Ok (next, g) → FirstFault step e next g → FirstFault step e (i ∷ more) f
