-- Lines of a file one by one: what they leave, that they are inside the format, and where it refuses.
use Rattle.std.specs.Prelude.{◌≡◌, ℕ, ◌+◌, ◌≤◌, List, [], ◌∷◌, length, Result, Ok, Err}
use Rattle.line_reader.specs.declared.fault.LineFault.{LineFault}
use Rattle.line_reader.specs.declared.fault.LineFault.TheVariants as faults
use Rattle.line_reader.specs.Reads.{and_then}
use Rattle.line_reader.specs.Files.{Format}

-- what lines, from the one with a number on, leave behind those above them
unfoldable pub after_lines : {S T : Type 0} → Format S T → ℕ → List (List ℕ) → S → Result S LineFault
after_lines format number [] s = Ok s
after_lines format number (line ∷ more) s = and_then (format.step number line s) (λ t. after_lines format (number + 1) more t)

-- the first lines of a file are inside its format, each behind those above it
pub record AreInside {S T : Type 0} (format : Format S T) (begin : S) (ls : List (List ℕ)) : Type 0 where
  pub state : S
  pub said : after_lines format 1 ls begin ≡ Ok state

-- a refusal at a line up to one
abbrev pub Placed : ℕ → LineFault → Type 0
Placed high (faults.Line n r) = (1 ≤ n) × (n ≤ high)
Placed high faults.NoMemory = ⊥

-- what holds of a refusal
abbrev pub OnFault : {B : Type 0} → ℕ → Result B LineFault → Type 0
OnFault {B} high r = (e : LineFault) → r ≡ Err e → Placed high e

-- where lines were read, the next one, and the end of the file, are refused there or at one of them
pub record RefusesRead {S T : Type 0} (format : Format S T) (begin : S) : Type 0 where
  pub step : (ls : List (List ℕ)) (line : List ℕ) (s : S) → after_lines format 1 ls begin ≡ Ok s → OnFault (1 + length ls) (format.step (1 + length ls) line s)
  pub finish : (ls : List (List ℕ)) (s : S) → after_lines format 1 ls begin ≡ Ok s → OnFault (1 + length ls) (format.finish (1 + length ls) s)
