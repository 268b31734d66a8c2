-- Texts taken apart at a sign, and words as numbers.
use Rattle.std.specs.Prelude.{ℕ, ◌+◌, ◌*◌, ◌-◌, ◌==◌, min, nat_lt, Bool, false, ◌||◌, if◌then◌else◌, List, [], ◌∷◌}

-- what stands in front of the first such sign, all of the text where there is none
abbrev pub before : ℕ → List ℕ → List ℕ
before sign [] = []
before sign (b ∷ bs) = if b == sign then [] else b ∷ before sign bs

-- what stands behind it, nothing where there is none
abbrev pub after : ℕ → List ℕ → List ℕ
after sign [] = []
after sign (b ∷ bs) = if b == sign then bs else after sign bs

-- the first word
abbrev pub first : List ℕ → List ℕ
first text = before 32 text

-- what stands behind it and its blank
abbrev pub rest : List ℕ → List ℕ
rest text = after 32 text

abbrev pub has_blank : List ℕ → Bool
has_blank [] = false
has_blank (b ∷ bs) = (b == 32) || has_blank bs

-- what stands in front of the last blank, nothing where there is none
abbrev pub front : List ℕ → List ℕ
front [] = []
front (b ∷ bs) = if has_blank bs then b ∷ front bs else []

-- what stands behind it, all of the text where there is none
abbrev pub last : List ℕ → List ℕ
last [] = []
last (b ∷ bs) = if has_blank bs then last bs else (if b == 32 then bs else b ∷ bs)

-- what stands in front of the last four words
abbrev pub front_of_four : List ℕ → List ℕ
front_of_four text = front (front (front (front text)))

-- ---- numbers

-- a number that has no place in 64 bits stands still at the last one
abbrev pub capped : ℕ → ℕ
capped n = min n 18446744073709551615

-- the number that digits make behind a number
abbrev pub number_from : ℕ → List ℕ → ℕ
number_from n [] = n
number_from n (d ∷ ds) = number_from (capped (capped (n * 10) + (d - 48))) ds

-- the number that a word may be
abbrev pub long : List ℕ → ℕ
long word = number_from 0 word

-- the same below 2^32, and 0 from there on
abbrev pub short : List ℕ → ℕ
short word = if nat_lt 4294967295 (long word) then 0 else long word
