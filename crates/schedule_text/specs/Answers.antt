-- That each file has one answer.
use Rattle.std.specs.Prelude.{◌≡◌, ◌≤◌, ℕ, ◌+◌, List, length, Ok, Err}
use Rattle.line_reader.specs.declared.fault.LineReason.{LineReason}
use Rattle.line_reader.specs.declared.fault.LineFault.TheVariants as faults
use Rattle.line_reader.specs.Lines.{lines}
use Rattle.network_config.specs.declared.schedule.Schedule.{Schedule}
use Rattle.schedule_text.specs.Schedules.{schedule_of}

-- a file says a schedule
abbrev pub Says : List ℕ → Schedule → Type 0
Says bytes s = schedule_of bytes ≡ Ok s

-- a line is the first outside the format, for a reason
abbrev pub IsRefused : List ℕ → ℕ → LineReason → Type 0
IsRefused bytes n reason = schedule_of bytes ≡ Err (faults.Line n reason)

pub record Accepted (bytes : List ℕ) : Type 0 where
  pub schedule : Schedule
  pub says : Says bytes schedule

-- a first refusal, at one of the lines or behind the last
pub record Refused (bytes : List ℕ) : Type 0 where
  pub line : ℕ
  pub reason : LineReason
  pub refused : IsRefused bytes line reason
  pub from : 1 ≤ line
  pub to : line ≤ length (lines bytes) + 1
