-- That each file has one answer.
use Rattle.std.specs.Prelude.{◌≡◌, ◌≤◌, ℕ, ◌+◌, List, length, Result, Ok, Err}
use Rattle.line_reader.specs.declared.fault.LineReason.{LineReason}
use Rattle.line_reader.specs.declared.fault.LineFault.{LineFault}
use Rattle.line_reader.specs.declared.fault.LineFault.TheVariants as faults
use Rattle.line_reader.specs.Lines.{lines}

-- a file has a value
pub record Accepted {T : Type 0} (answer : List ℕ → Result T LineFault) (bytes : List ℕ) : Type 0 where
  pub value : T
  pub says : answer bytes ≡ Ok value

-- a file has a first refusal, at one of its lines or behind the last
pub record Refused {T : Type 0} (answer : List ℕ → Result T LineFault) (bytes : List ℕ) : Type 0 where
  pub line : ℕ
  pub reason : LineReason
  pub refused : answer bytes ≡ Err (faults.Line line reason)
  pub from : 1 ≤ line
  pub to : line ≤ length (lines bytes) + 1
