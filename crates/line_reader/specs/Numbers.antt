-- Numbers: decimal digits without leading zeros.
use Rattle.std.specs.Prelude.{ℕ, ◌+◌, ◌*◌, ◌-◌, Bool, true, false, ◌&&◌, if◌then◌else◌, ◌==◌, nat_le, List, [], ◌∷◌, Ok, Option, Some, None}
use Rattle.std.specs.List.{list_all}
use Rattle.std.specs.Option.{ok_or}
use Rattle.line_reader.specs.declared.fault.LineReason.TheVariants.{BadNumber}
use Rattle.line_reader.specs.Reads.{◌>>=◌, Part, word_at}

-- a decimal digit
abbrev pub is_digit : ℕ → Bool
is_digit b = nat_le 48 b && nat_le b 57

-- the number that digits make behind a number
abbrev pub digits_from : ℕ → List ℕ → ℕ
digits_from n [] = n
digits_from n (d ∷ ds) = digits_from (n * 10 + (d - 48)) ds

-- whether a word is empty or begins with a zero that isn't all of it
abbrev pub is_padded : List ℕ → Bool
is_padded [] = true
is_padded (d ∷ []) = false
is_padded (d ∷ e ∷ ds) = d == 48

-- the number that a word spells, if it spells one
abbrev pub spelled_number : List ℕ → Option ℕ
spelled_number word = if is_padded word then None else (if list_all is_digit word then Some (digits_from 0 word) else None)

-- a number from low to high
abbrev pub within : ℕ → ℕ → Option ℕ → Option ℕ
within low high None = None
within low high (Some n) = if nat_le low n && nat_le n high then Some n else None

-- the number from low to high that a word spells
abbrev pub number_in : ℕ → ℕ → List ℕ → Option ℕ
number_in low high word = within low high (spelled_number word)

-- the next word as a number from low to high
unfoldable pub number_at : ℕ → ℕ → List (List ℕ) → Part ℕ
number_at low high ws = do
  w ← word_at ws
  n ← ok_or (number_in low high w.0) BadNumber
  Ok (n, w.1)
