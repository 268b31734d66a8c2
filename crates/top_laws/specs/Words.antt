-- What the written lines of node files share: words, and programs with their texts.
use Rattle.std.specs.Prelude.{◌≡◌, ℕ, true, not, ◌==◌, List, [], ◌∷◌, ◌++◌, Ok}
use Rattle.std.specs.List.{All, list_all}
use lib.Chars.{codes}
use Rattle.plan_base.specs.declared.tree.Program.{Program}
use Rattle.line_reader.specs.Programs.{program_in}
use Rattle.schedule_text.specs.Written.{spread, is_line, IsTextLine}

-- bytes that a line can have as one word: no space and no line feed
abbrev pub IsOneWord : List ℕ → Type 0
IsOneWord w = (list_all (λ b. not (b == 32)) w ≡ true) × (is_line w ≡ true)

-- the lines of a program's text, between those that begin and end it
abbrev pub program_lines : List (List ℕ) → List (List ℕ)
program_lines text = codes "program" ∷ (text ++ codes "end program" ∷ [])

-- no line of a text ends it, and the text says the program
pub record IsTextOf (program : Program) (text : List (List ℕ)) : Type 0 where
  pub lines : All IsTextLine text
  pub says : program_in (spread text) ≡ Ok program
