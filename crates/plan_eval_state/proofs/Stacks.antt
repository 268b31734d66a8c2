-- The list below a stack.
use Rattle.std.proofs.Common.{◌≡◌, ℕ, ◌+◌, ◌-◌, ◌<◌, List, [], ◌∷◌, ◌++◌, length, reverse, slice_get, slice_set, take, Some, refl, sym, ap, ◌∙◌, arith}
use Rattle.std.proofs.lemmas.List.{reverse-reverse, length-reverse, reverse-append, take_more_set}
use Rattle.std.proofs.Math.Seq.{take-append_seam}
use Rattle.containers.proofs.Options.{some-same}
use Rattle.plan_eval_state.specs.Places.{at_place}
use Rattle.plan_eval_state.proofs.Bottoms.{place_of_top}

take_front : {A : Type 0} (xs ys : List A) (n : ℕ) → n ≡ length xs → take n (xs ++ ys) ≡ xs
take_front xs ys n e = ap (λ m. take m (xs ++ ys)) e ∙ take-append_seam xs ys

below : {A : Type 0} (items junk pre : List A) → reverse items ≡ junk ++ pre → items ≡ reverse pre ++ reverse junk
below items junk pre view = sym (reverse-reverse items) ∙ ap reverse view ∙ reverse-append junk pre

-- only the lowest stay
pub cut : {A : Type 0} (items now junk pre : List A) (n : ℕ) → now ≡ take n items → reverse items ≡ junk ++ pre → n ≡ length pre → reverse now ≡ pre
cut items now junk pre n is view len =
    let b : now ≡ reverse pre = is ∙ ap (take n) (below items junk pre view) ∙ take_front (reverse pre) (reverse junk) n (len ∙ sym (length-reverse pre)) in
    ap reverse b ∙ reverse-reverse pre

head_same : {A : Type 0} (x y : A) (xs ys : List A) → x ∷ xs ≡ y ∷ ys → x ≡ y
head_same x y xs ys h = cc

tail_same : {A : Type 0} (x y : A) (xs ys : List A) → x ∷ xs ≡ y ∷ ys → xs ≡ ys
tail_same x y xs ys h = cc

-- the last item in the place of those between
pub slid : {A : Type 0} (items rest now : List A) (x y : A) (held pre : List A) (n : ℕ) → items ≡ rest ++ y ∷ [] → reverse items ≡ x ∷ (held ++ pre)
    → now ≡ take (n + 1) (slice_set rest n y) → n < length rest → n ≡ length pre → reverse now ≡ x ∷ pre
slid items rest now x y held pre n last view is less len =
    let both : y ∷ reverse rest ≡ x ∷ (held ++ pre) = sym (reverse-append rest (y ∷ [])) ∙ ap reverse (sym last) ∙ view in
    let base : reverse (take n rest) ≡ pre = cut rest (take n rest) held pre n refl (tail_same y x (reverse rest) (held ++ pre) both) len in
    let there : now ≡ take n rest ++ y ∷ [] = is ∙ take_more_set rest n y less in
    ap reverse there ∙ reverse-append (take n rest) (y ∷ []) ∙ ap (λ l. y ∷ l) base ∙ ap (λ z. z ∷ pre) (head_same y x (reverse rest) (held ++ pre) both)

pub item_at : {A : Type 0} (items view : List A) (x : A) (i : ℕ) → reverse items ≡ view → slice_get items i ≡ Some x → at_place view i ≡ Some x
unfolding at_place
item_at items view x i is there = ap (λ v. slice_get (reverse v) i) (sym is) ∙ ap (λ v. slice_get v i) (reverse-reverse items) ∙ there

-- the item below the height is the one on top
pub top_is : {A : Type 0} (stack pre : List A) (v x : A) (n : ℕ) → stack ≡ v ∷ pre → n ≡ length stack → at_place stack (n - 1) ≡ Some x → x ≡ v
top_is stack pre v x n is len there =
    let height : n - 1 ≡ length pre = omega (arith, len, ap length is) in
    some-same (sym there ∙ ap (λ s. at_place s (n - 1)) is ∙ place_of_top v pre (n - 1) height)
