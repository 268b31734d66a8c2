-- The frame of a number, looked for from the last one on.
use Rattle.std.proofs.Common.{◌≡◌, ◌≢◌, ℕ, zero, suc, ◌<◌, List, [], ◌∷◌, length, drop, get_or, Some, None, refl, ap, subst, add-one, arith, ne_eqb, eq-eqb}
use Rattle.trace_chart_picture.specs.declared.walk.Journey.{Journey}
use Rattle.trace_chart_picture.specs.Walks.{frame_of}

found_at : (number i : ℕ) (js : List Journey) (d : Journey) → frame_of number (drop (suc i) js) ≡ None → i < length js → (get_or js i d).number ≡ number → frame_of number js ≡ Some i
found_at number i [] d none within same = absurd (omega (arith, within))
found_at number zero (j ∷ js) d none within same = rw (none, eq-eqb j.number number same) refl
found_at number (suc i) (j ∷ js) d none within same = rw (found_at number i js d none (omega (arith, within)) same) (ap Some (add-one i))

passed_at : (number i : ℕ) (js : List Journey) (d : Journey) → frame_of number (drop (suc i) js) ≡ None → i < length js → (get_or js i d).number ≢ number → frame_of number (drop i js) ≡ None
passed_at number i [] d none within other = absurd (omega (arith, within))
passed_at number zero (j ∷ js) d none within other = rw (none, ne_eqb j.number number other) refl
passed_at number (suc i) (j ∷ js) d none within other = passed_at number i js d none (omega (arith, within)) other

-- none of the frames behind this place has the number, and this one has it
pub frame_found : (number i k : ℕ) (js : List Journey) (d : Journey) → k ≡ suc i → frame_of number (drop k js) ≡ None → i < length js → (get_or js i d).number ≡ number → frame_of number js ≡ Some i
frame_found number i k js d e none within same = found_at number i js d (subst (λ (n : ℕ). frame_of number (drop n js) ≡ None) e none) within same

-- nor has this one
pub frame_passed : (number i k : ℕ) (js : List Journey) (d : Journey) → k ≡ suc i → frame_of number (drop k js) ≡ None → i < length js → (get_or js i d).number ≢ number → frame_of number (drop i js) ≡ None
frame_passed number i k js d e none within other = passed_at number i js d (subst (λ (n : ℕ). frame_of number (drop n js) ≡ None) e none) within other
