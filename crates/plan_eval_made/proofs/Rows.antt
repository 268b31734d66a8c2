-- Rows of values: what they weigh, and how they are taken off the stack.
use Rattle.std.proofs.Common.{◌≡◌, ◌<◌, ◌≤◌, ℕ, zero, suc, ◌+◌, arith, min, max, List, [], ◌∷◌, ◌++◌, length, length-append, reverse, refl, sym, ap, ◌∙◌}
use Rattle.std.specs.List.{fold, sum_by}
use Rattle.std.proofs.lemmas.List.{reverse-append, reverse-reverse, length-reverse, append_assoc}
use Rattle.std.proofs.lemmas.List.Sums.{sum_by-cons}
use Rattle.plan_base.specs.Sizes.{largest_by}

largest_from : {X : Type 0} (f : X → ℕ) (a : ℕ) (xs : List X) → fold (λ m x. max m (f x)) a xs ≡ max a (largest_by f xs)
largest_from f a [] = omega arith
largest_from f a (x ∷ xs) =
    let one : fold (λ m x. max m (f x)) (max a (f x)) xs ≡ max (max a (f x)) (largest_by f xs) = largest_from f (max a (f x)) xs in
    let all : fold (λ m x. max m (f x)) (max 0 (f x)) xs ≡ max (max 0 (f x)) (largest_by f xs) = largest_from f (max 0 (f x)) xs in
    omega (arith, one, all)

pub largest_cons : {X : Type 0} (f : X → ℕ) (x : X) (xs : List X) → largest_by f (x ∷ xs) ≡ max (f x) (largest_by f xs)
largest_cons f x xs =
    let all : fold (λ m x. max m (f x)) (max 0 (f x)) xs ≡ max (max 0 (f x)) (largest_by f xs) = largest_from f (max 0 (f x)) xs in
    omega (arith, all)

module _ {X : Type 0} (weigh nest : X → ℕ) (old new : List X) (x : X) (view : List X) (is : reverse old ≡ view) (more : new ≡ old ++ x ∷ []) where
  turned_more : reverse new ≡ x ∷ view
  turned_more = ap reverse more ∙ reverse-append old (x ∷ []) ∙ ap (λ l. x ∷ l) is

  -- one more value before the others
  pub row_weight : (w v t m : ℕ) → w ≡ min (sum_by weigh view) m → v ≡ min (weigh x) m → t ≡ min (w + v) m → t ≡ min (sum_by weigh (reverse new)) m
  row_weight w v t m a b c =
      let e : sum_by weigh (reverse new) ≡ weigh x + sum_by weigh view = ap (sum_by weigh) turned_more ∙ sum_by-cons weigh x view in
      omega (arith, a, b, c, e)

  pub row_nesting : (w v t m : ℕ) → w ≡ min (largest_by nest view) m → v ≡ min (nest x) m → t ≡ max w v → t ≡ min (largest_by nest (reverse new)) m
  row_nesting w v t m a b c =
      let e : largest_by nest (reverse new) ≡ max (nest x) (largest_by nest view) = ap (largest_by nest) turned_more ∙ largest_cons nest x view in
      omega (arith, a, b, c, e)

-- ---- two fronts of one list

pub heads : {X : Type 0} (x y : X) (xs ys : List X) → x ∷ xs ≡ y ∷ ys → x ≡ y
heads x y xs ys h = cc

tails : {X : Type 0} (x y : X) (xs ys : List X) → x ∷ xs ≡ y ∷ ys → xs ≡ ys
tails x y xs ys h = cc

pub fronts : {X : Type 0} (a b c d : List X) → a ++ b ≡ c ++ d → length a ≡ length c → (a ≡ c) × (b ≡ d)
fronts [] b [] d e same = (refl, e)
fronts (x ∷ a) b (y ∷ c) d e same =
    let rest = fronts a b c d (tails x y (a ++ b) (c ++ d) e) (omega (arith, same)) in
    (ap (λ z. z ∷ a) (heads x y (a ++ b) (c ++ d) e) ∙ ap (λ l. y ∷ l) rest.0, rest.1)
fronts [] b (y ∷ c) d e same = absurd (omega (arith, same))
fronts (x ∷ a) b [] d e same = absurd (omega (arith, same))

-- the row that was taken off is the values that were held, in turn
pub row_taken : {X : Type 0} (row held stack pre : List X) (n : ℕ) → reverse row ++ stack ≡ held ++ pre → length row ≡ n → length held ≡ n → (row ≡ reverse held) × (stack ≡ pre)
row_taken row held stack pre n e many all =
    let both = fronts (reverse row) stack held pre e (length-reverse row ∙ many ∙ sym all) in
    (sym (reverse-reverse row) ∙ ap reverse both.0, both.1)

-- there are as many values as were held
pub row_short : {X : Type 0} (row held pre : List X) (n : ℕ) → reverse row ++ [] ≡ held ++ pre → length row < n → length held ≡ n → ⊥
row_short row held pre n e less all =
    let same : length (reverse row ++ []) ≡ length (held ++ pre) = ap length e in
    omega (arith, same, length-append (reverse row) [], length-append held pre, length-reverse row, less, all)

-- one more was taken off
pub row_more : {X : Type 0} (row now all stack rest : List X) (x : X) → now ≡ x ∷ row → stack ≡ x ∷ rest → reverse row ++ stack ≡ all → reverse now ++ rest ≡ all
row_more row now all stack rest x is top e =
    ap (λ l. reverse l ++ rest) is ∙ ap (λ l. l ++ rest) (reverse-append (x ∷ []) row) ∙ append_assoc (reverse row) (x ∷ []) rest
    ∙ ap (λ l. reverse row ++ l) (sym top) ∙ e
