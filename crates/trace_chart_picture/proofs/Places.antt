-- Texts taken apart: where the last word begins, and what a text that is made of words is taken apart into.
use Rattle.std.proofs.Common.{◌≡◌, ◌||◌, ℕ, zero, suc, ◌<◌, Bool, true, false, eqb, List, [], ◌∷◌, length, take, drop, get_or, refl, sym, ap, ◌∙◌, subst, arith, eq-eqb}
use Rattle.trace_chart_picture.specs.Cuts.{has_blank, front, last}

-- ---- the last word

or_true : (x : Bool) → (x || true) ≡ true
or_true true = refl
or_true false = refl

none_of : (x y : Bool) → (x || y) ≡ false → (x ≡ false) × (y ≡ false)
none_of false y e = (refl, e)
none_of true y e = absurd cc

blank_at : (i : ℕ) (text : List ℕ) (d : ℕ) → i < length text → get_or text i d ≡ 32 → has_blank text ≡ true
blank_at i [] d within e = absurd (omega (arith, within))
blank_at zero (b ∷ bs) d within e = rw (eq-eqb b 32 e) refl
blank_at (suc i) (b ∷ bs) d within e = rw (blank_at i bs d (omega (arith, within)) e) (or_true (eqb b 32))

last_at : (i : ℕ) (text : List ℕ) (d : ℕ) → i < length text → get_or text i d ≡ 32 → has_blank (drop (suc i) text) ≡ false → last text ≡ drop (suc i) text
last_at i [] d within e none = absurd (omega (arith, within))
last_at zero (b ∷ bs) d within e none = rw (none, eq-eqb b 32 e) refl
last_at (suc i) (b ∷ bs) d within e none = rw (blank_at i bs d (omega (arith, within)) e) (last_at i bs d (omega (arith, within)) e none)

front_at : (i : ℕ) (text : List ℕ) (d : ℕ) → i < length text → get_or text i d ≡ 32 → has_blank (drop (suc i) text) ≡ false → front text ≡ take i text
front_at i [] d within e none = absurd (omega (arith, within))
front_at zero (b ∷ bs) d within e none = rw none refl
front_at (suc i) (b ∷ bs) d within e none = rw (blank_at i bs d (omega (arith, within)) e) (ap (λ (z : List ℕ). b ∷ z) (front_at i bs d (omega (arith, within)) e none))

-- behind a blank behind which there is none
pub last_place : (i k : ℕ) (text : List ℕ) (d : ℕ) → k ≡ suc i → i < length text → get_or text i d ≡ 32 → has_blank (drop k text) ≡ false → last text ≡ drop k text
last_place i k text d e within here none =
    last_at i text d within here (subst (λ (n : ℕ). has_blank (drop n text) ≡ false) e none) ∙ ap (λ (n : ℕ). drop n text) (sym e)

pub front_place : (i k : ℕ) (text : List ℕ) (d : ℕ) → k ≡ suc i → i < length text → get_or text i d ≡ 32 → has_blank (drop k text) ≡ false → front text ≡ take i text
front_place i k text d e within here none = front_at i text d within here (subst (λ (n : ℕ). has_blank (drop n text) ≡ false) e none)

-- where there is none, all of the text is the last word
pub last_none : (text : List ℕ) → has_blank text ≡ false → last text ≡ text
last_none [] e = refl
last_none (b ∷ bs) e = let k = none_of (eqb b 32) (has_blank bs) e in rw (k.1, k.0) refl

pub front_none : (text : List ℕ) → has_blank text ≡ false → front text ≡ []
front_none [] e = refl
front_none (b ∷ bs) e = rw (none_of (eqb b 32) (has_blank bs) e).1 refl
