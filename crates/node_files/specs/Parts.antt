-- What the lines of node files share.
use Rattle.std.specs.Prelude.{ℕ, if◌then◌else◌, List, Result, Ok, Err}
use Rattle.std.specs.Str.{bytes_eq}
use Rattle.line_reader.specs.declared.fault.LineReason.{LineReason}
use Rattle.line_reader.specs.declared.fault.LineReason.TheVariants.{BadHeader, BadWord}
use Rattle.line_reader.specs.declared.fault.LineFault.{LineFault}
use Rattle.line_reader.specs.declared.fault.LineFault.TheVariants as faults
use Rattle.line_reader.specs.Lines.{words}
use Rattle.line_reader.specs.Files.{is_skipped, at_line}
use Rattle.line_reader.specs.Reads.{◌>>=◌, word_at, end_at, allowed_or_reason}
use Rattle.line_reader.specs.Numbers.{number_at}

-- the words behind this one, which must stand next
unfoldable pub behind_word : List ℕ → List (List ℕ) → Result (List (List ℕ)) LineReason
behind_word word ws = do
  w ← word_at ws
  _ ← allowed_or_reason (bytes_eq w.0 word) BadWord
  Ok w.1

-- a number that ends its line
unfoldable pub last_number : ℕ → ℕ → List (List ℕ) → Result ℕ LineReason
last_number low high ws = do
  n ← number_at low high ws
  _ ← end_at n.1
  Ok n.0

-- the first line, which is the header
abbrev pub header_line : {A : Type 0} → List ℕ → ℕ → List ℕ → A → Result A LineFault
header_line header number line s = if bytes_eq line header then Ok s else Err (faults.Line number BadHeader)

-- a line that says nothing changes nothing; another one is read by its words
abbrev pub usual_line : {A : Type 0} → ℕ → List ℕ → A → (List (List ℕ) → Result A LineReason) → Result A LineFault
usual_line number line s read = if is_skipped line then Ok s else at_line number (read (words line))
