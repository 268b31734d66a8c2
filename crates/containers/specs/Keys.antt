-- Items with keys, and lists in which a key finds the first of its items. `key` says which key an item has.
use Rattle.std.specs.Prelude.{◌≡◌, ℕ, ℤ, Bool, not, ◌&&◌, if◌then◌else◌, List, [], ◌∷◌, filter, Option, Some, None}
use Rattle.std.specs.Ordering.{int_eq}
use Rattle.std.specs.Str.{bytes_eq}

-- a name and a number
pub record Key : Type 0 where
  pub name : List ℕ
  pub number : ℤ

unfoldable pub same_key : Key → Key → Bool
same_key a b = int_eq a.number b.number && bytes_eq a.name b.name

-- the first item of the key
abbrev pub first_of_key : {R : Type 0} → (R → Key) → Key → List R → Option R
first_of_key key k [] = None
first_of_key key k (x ∷ xs) = if same_key (key x) k then Some x else first_of_key key k xs

-- the list with the item in the place of the first one of its key, or at the end where there is none
abbrev pub put : {R : Type 0} → (R → Key) → R → List R → List R
put key r [] = r ∷ []
put key r (x ∷ xs) = if same_key (key x) (key r) then r ∷ xs else x ∷ put key r xs

-- the list without the items of the key
abbrev pub without : {R : Type 0} → (R → Key) → Key → List R → List R
without key k xs = filter (λ x. not (same_key (key x) k)) xs

-- no two items have the same key
abbrev pub IsUnique : {R : Type 0} → (R → Key) → List R → Type 0
IsUnique key [] = Unit {0}
IsUnique key (x ∷ xs) = (first_of_key key (key x) xs ≡ None) × IsUnique key xs
