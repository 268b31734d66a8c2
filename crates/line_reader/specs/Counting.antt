-- One line more in a file: the lines behind it get other numbers.
use Rattle.std.specs.Prelude.{◌≡◌, ℕ, ◌+◌, ◌<◌, nat_le, if◌then◌else◌, List, Result, Ok, Err}
use Rattle.line_reader.specs.declared.fault.LineFault.{LineFault}
use Rattle.line_reader.specs.declared.fault.LineFault.TheVariants as faults
use Rattle.line_reader.specs.Files.{Format}

-- the number that a line gets where one more stands behind the first ones
abbrev pub moved_line : ℕ → ℕ → ℕ
moved_line first n = if nat_le n first then n else n + 1

-- a refusal with the number that its line gets
abbrev pub moved_fault : ℕ → LineFault → LineFault
moved_fault first (faults.Line n r) = faults.Line (moved_line first n) r
moved_fault first faults.NoMemory = faults.NoMemory

-- what is read, changed by a function, or the refusal with the number that its line gets
abbrev pub moved_by : {A : Type 0} → ℕ → (A → A) → Result A LineFault → Result A LineFault
moved_by first change (Ok x) = Ok (change x)
moved_by first change (Err e) = Err (moved_fault first e)

-- a format only counts its lines: with one line more it goes on from shifted states to shifted states, and to the same value
pub record CountsOnly {S T : Type 0} (format : Format S T) (shift : ℕ → S → S) : Type 0 where
  pub step : (first number : ℕ) (line : List ℕ) (s : S) → first < number
      → format.step (number + 1) line (shift first s) ≡ moved_by first (shift first) (format.step number line s)
  pub finish : (first number : ℕ) (s : S) → first < number → format.finish (number + 1) (shift first s) ≡ moved_by first (λ t. t) (format.finish number s)
