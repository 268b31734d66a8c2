-- One line more that says nothing.
use Rattle.std.specs.Prelude.{◌≡◌, true, ℕ, List, ◌∷◌, ◌++◌, length}
use Rattle.line_reader.specs.Counting.{moved_by}
use Rattle.line_reader.specs.Files.{Format, is_skipped, file_of}
use Rattle.line_reader.specs.Inside.{AreInside}
use Rattle.line_reader.specs.Lines.{lines}

-- these lines of a file end where a line that says nothing may come
pub record EndOutside {S T : Type 0} (format : Format S T) (begin : S) (Outside : S → Type 0) (ls : List (List ℕ)) : Type 0 where
  pub inside : AreInside format begin ls
  pub outside : Outside inside.state

-- one file has a line more than another
pub record HasMore (bytes more : List ℕ) (before : List (List ℕ)) (line : List ℕ) (after : List (List ℕ)) : Type 0 where
  pub without : lines bytes ≡ before ++ after
  pub with : lines more ≡ before ++ line ∷ after

-- a line that says nothing, put where one may come, changes nothing but the numbers of the lines behind it
abbrev pub SkipsLines : {S T : Type 0} → Format S T → S → (S → Type 0) → Type 0
SkipsLines format begin Outside = (bytes more : List ℕ) (before after : List (List ℕ)) (line : List ℕ)
    → HasMore bytes more before line after → is_skipped line ≡ true → EndOutside format begin Outside before
    → file_of format begin more ≡ moved_by (length before) (λ x. x) (file_of format begin bytes)
