-- Fronts and rests of lists of bytes.
use Rattle.std.proofs.Common.{◌≡◌, ℕ, ◌+◌, ◌-◌, ◌≤◌, suc, List, [], ◌∷◌, ◌++◌, length, take, drop, refl, sym, ap, ◌∙◌, arith, zero, length-drop}
use Rattle.std.proofs.lemmas.List.{take-append-drop, take-append-le, length-take, drop-drop}

-- what is left at a place is what is copied from there, and what is left behind it
pub left_after : (bytes from rest : List ℕ) (at count : ℕ) → at ≤ length bytes → count ≤ length bytes - at → from ≡ take (at + count - at) (drop at bytes)
    → drop at bytes ≡ take count (from ++ rest) ++ drop (at + count) bytes
left_after bytes from rest at count inside fits is =
    let n : at + count - at ≡ count = omega arith in
    let whole : from ≡ take count (drop at bytes) = is ∙ ap (λ m. take m (drop at bytes)) n in
    let long : count ≤ length from = rw whole (omega (arith, length-take count (drop at bytes), length-drop at bytes)) in
    let front : take count (from ++ rest) ≡ take count (drop at bytes) = take-append-le count from rest long ∙ ap (λ x. take count x) whole ∙ take_again count (drop at bytes) in
    let behind : drop count (drop at bytes) ≡ drop (at + count) bytes = drop-drop count at bytes in
    sym (ap (λ x. x ++ drop (at + count) bytes) front ∙ ap (λ x. take count (drop at bytes) ++ x) (sym behind) ∙ take-append-drop count (drop at bytes))
  where
    take_again : (n : ℕ) (xs : List ℕ) → take n (take n xs) ≡ take n xs
    take_again zero xs = refl
    take_again (suc n) [] = refl
    take_again (suc n) (x ∷ xs) = ap (λ r. x ∷ r) (take_again n xs)
