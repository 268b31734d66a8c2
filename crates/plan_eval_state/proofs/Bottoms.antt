-- Places of a stack.
use Rattle.std.proofs.Common.{◌≡◌, ℕ, zero, suc, List, [], ◌∷◌, ◌++◌, length, reverse, slice_get, Some, refl, sym, ap, ◌∙◌}
use Rattle.std.proofs.lemmas.List.{length-reverse, reverse-append}
use Rattle.containers.proofs.Options.{none-some}
use Rattle.plan_eval_state.specs.Places.{at_place}

pub kept_in : {A : Type 0} (xs ys : List A) (i : ℕ) (x : A) → slice_get xs i ≡ Some x → slice_get (xs ++ ys) i ≡ Some x
kept_in [] ys i x is = absurd (none-some is)
kept_in (y ∷ xs) ys zero x is = is
kept_in (y ∷ xs) ys (suc i) x is = kept_in xs ys i x is

-- what stands on top changes no place below
pub place_under : {A : Type 0} (held pre : List A) (i : ℕ) (x : A) → at_place pre i ≡ Some x → at_place (held ++ pre) i ≡ Some x
unfolding at_place
place_under held pre i x is = ap (λ v. slice_get v i) (reverse-append held pre) ∙ kept_in (reverse pre) (reverse held) i x is

last_one : {A : Type 0} (xs : List A) (x : A) (n : ℕ) → n ≡ length xs → slice_get (xs ++ x ∷ []) n ≡ Some x
last_one [] x n e = ap (λ n. slice_get (x ∷ []) n) e
last_one (y ∷ xs) x n e = ap (λ n. slice_get (y ∷ (xs ++ x ∷ [])) n) e ∙ last_one xs x (length xs) refl

-- the item on top stands at the height of what is below it
pub place_of_top : {A : Type 0} (x : A) (pre : List A) (n : ℕ) → n ≡ length pre → at_place (x ∷ pre) n ≡ Some x
unfolding at_place
place_of_top x pre n e = ap (λ v. slice_get v n) (reverse-append (x ∷ []) pre) ∙ last_one (reverse pre) x n (e ∙ sym (length-reverse pre))
