-- A file line by line, up to its first line that is outside the format.
use Rattle.std.specs.Prelude.{ℕ, ◌+◌, Bool, true, ◌==◌, List, [], ◌∷◌, Result, Ok, Err}
use Rattle.line_reader.specs.declared.fault.LineReason.{LineReason}
use Rattle.line_reader.specs.declared.fault.LineFault.{LineFault}
use Rattle.line_reader.specs.declared.fault.LineFault.TheVariants as faults
use Rattle.line_reader.specs.Lines.{lines}
use Rattle.line_reader.specs.Reads.{and_then}

-- a line that says nothing: empty, or a comment
abbrev pub is_skipped : List ℕ → Bool
is_skipped [] = true
is_skipped (b ∷ bytes) = b == 35

-- a reason at its line
abbrev pub at_line : {A : Type 0} → ℕ → Result A LineReason → Result A LineFault
at_line number (Ok x) = Ok x
at_line number (Err reason) = Err (faults.Line number reason)

-- what the line with a number says behind what those above it said, and what the file says that ends in front of it
pub record Format (S T : Type 0) : Type 0 where
  pub step : ℕ → List ℕ → S → Result S LineFault
  pub finish : ℕ → S → Result T LineFault

-- what the lines from the one with a number on say
unfoldable pub read_on : {S T : Type 0} → Format S T → ℕ → List (List ℕ) → S → Result T LineFault
read_on format number [] s = format.finish number s
read_on format number (line ∷ more) s = and_then (format.step number line s) (λ t. read_on format (number + 1) more t)

-- what all bytes of a file say
abbrev pub file_of : {S T : Type 0} → Format S T → S → List ℕ → Result T LineFault
file_of format begin bytes = read_on format 1 (lines bytes) begin
