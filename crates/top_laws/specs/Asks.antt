-- Requests as they are written: the words of each line, and when they say the request.
use Rattle.std.specs.Prelude.{ℕ, List, [], ◌∷◌}
use Rattle.std.specs.Fmt.{decimal}
use lib.Chars.{codes}
use Rattle.network_config.specs.declared.fleet.AskFile.{AskFile}
use Rattle.network_config.specs.NodeRules.{KeepsAsk}
use Rattle.line_reader.specs.Lines.{spaced_words}
use Rattle.schedule_text.specs.Written.{spread, IsCall}
use Rattle.top_laws.specs.Words.{program_lines, IsTextOf}

abbrev pub to_words : AskFile → List (List ℕ)
to_words a = codes "to" ∷ decimal a.to ∷ []

abbrev pub from_words : AskFile → List (List ℕ)
from_words a = codes "from" ∷ decimal a.from ∷ []

abbrev pub bound_words : AskFile → List (List ℕ)
bound_words a = codes "bound" ∷ decimal a.bound ∷ []

-- the arguments are the rest of the line
abbrev pub entry_words : List ℕ → AskFile → List (List ℕ)
entry_words args a = codes "entry" ∷ a.chunk.entry ∷ args ∷ []

-- a request line by line, its program last
abbrev pub ask_lines : List (List ℕ) → List ℕ → AskFile → List (List ℕ)
ask_lines text args a =
    codes "planet inject 1" ∷ spaced_words (to_words a) ∷ spaced_words (from_words a) ∷ spaced_words (bound_words a) ∷ spaced_words
    (entry_words args a) ∷ program_lines text

-- a request as a text
abbrev pub ask_text : List (List ℕ) → List ℕ → AskFile → List ℕ
ask_text text args a = spread (ask_lines text args a)

-- a request within its limits, with texts that say its program and its arguments
pub record IsAsk (text : List (List ℕ)) (args : List ℕ) (a : AskFile) : Type 0 where
  pub rules : KeepsAsk a
  pub program : IsTextOf a.chunk.code text
  pub call : IsCall args a.chunk
