-- Small laws on lists: tests of all items, sums and greatest numbers, and how parts are regrouped.
use Rattle.std.proofs.Common.{◌≡◌, ℕ, zero, suc, ◌+◌, ◌<◌, Bool, ◌&&◌, List, [], ◌∷◌, ◌++◌, length, get_or, drop, refl, ap, ◌∙◌, arith, append_assoc}
use Rattle.std.specs.Prelude.{map, fold, max}
use Rattle.std.specs.List.{list_all}

-- a test of images is one of the items
pub list_all-map : {X Y : Type 0} (p : Y → Bool) (f : X → Y) (xs : List X) → list_all p (map f xs) ≡ list_all (λ x. p (f x)) xs
list_all-map p f [] = refl
list_all-map p f (x ∷ xs) = ap (λ b. p (f x) && b) (list_all-map p f xs)

-- two tests that answer alike
pub list_all-same : {X : Type 0} (f g : X → Bool) → ((x : X) → f x ≡ g x) → (xs : List X) → list_all f xs ≡ list_all g xs
list_all-same f g e xs = λ i. list_all (λ x. e x i) xs

-- whether all answers of a test are true
pub all-map : {X : Type 0} (f : X → Bool) (xs : List X) → list_all (λ b. b) (map f xs) ≡ list_all f xs
all-map f xs = list_all-map (λ b. b) f xs

pub all-map-same : {X : Type 0} (f g : X → Bool) → ((x : X) → f x ≡ g x) → (xs : List X) → list_all (λ b. b) (map f xs) ≡ list_all g xs
all-map-same f g e xs = all-map f xs ∙ list_all-same f g e xs

-- the items from the one at i on
pub all_suc : {X : Type 0} (p : X → Bool) (xs : List X) (i : ℕ) (d : X) → i < length xs → list_all p (drop i xs) ≡ (p (get_or xs i d) && list_all p (drop (suc i) xs))
all_suc p [] i d h = absurd (omega arith)
all_suc p (x ∷ xs) zero d h = refl
all_suc p (x ∷ xs) (suc i) d h = all_suc p xs i d (omega arith)

pub all_next : {X : Type 0} (p : X → Bool) (xs : List X) (i : ℕ) (d : X) → i < length xs → list_all p (drop i xs) ≡ (p (get_or xs i d) && list_all p (drop (i + 1) xs))
all_next p xs i d h = let e : suc i ≡ i + 1 = omega arith in all_suc p xs i d h ∙ ap (λ j. p (get_or xs i d) && list_all p (drop j xs)) e

-- the greatest of a number and of what items have
pub largest_from : {X : Type 0} (f : X → ℕ) (m : ℕ) (xs : List X) → fold (λ a y. max a (f y)) m xs ≡ max m (fold (λ a y. max a (f y)) 0 xs)
largest_from f m [] = omega arith
largest_from f m (x ∷ xs) = let a = largest_from f (max m (f x)) xs in let b = largest_from f (max 0 (f x)) xs in omega arith

-- a sum that begins with a number
pub sum_from : {X : Type 0} (f : X → ℕ) (m : ℕ) (xs : List X) → fold (λ a y. a + f y) m xs ≡ m + fold (λ a y. a + f y) 0 xs
sum_from f m [] = grind arith
sum_from f m (x ∷ xs) = let a = sum_from f (m + f x) xs in let b = sum_from f (0 + f x) xs in omega arith

-- two parts with an item behind them, before the rest
pub regroup : {X : Type 0} (a b : List X) (c : X) (d : List X) → ((a ++ b) ++ (c ∷ [])) ++ d ≡ a ++ (b ++ (c ∷ d))
regroup a b c d = append_assoc (a ++ b) (c ∷ []) d ∙ append_assoc a b (c ∷ d)
