-- What printed forms are made of.
use Rattle.std.specs.Prelude.{ℕ, List, [], ◌∷◌, ◌++◌, codes, if◌then◌else◌}
use lib.Utf8.{scalar}
use Rattle.plan_printer_spec.specs.Literals.{char_text}

-- items in a row: `first` before the first one, and `between` before each other one
abbrev pub listed_pieces : {X A : Type 0} → List A → List A → (X → List A) → List X → List A
listed_pieces between first print [] = []
listed_pieces between first print (x ∷ xs) = first ++ (print x ++ listed_pieces between between print xs)

-- texts with a comma between two
abbrev pub commas : {X : Type 0} → (X → List ℕ) → List X → List ℕ
commas print xs = listed_pieces (codes ", ") [] print xs

-- a char; a number that is no Unicode scalar value, which no well-formed tree has, prints as nothing
unfoldable pub scalar_text : ℕ → List ℕ
scalar_text c = if scalar c then char_text c else []
