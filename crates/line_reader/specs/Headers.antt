-- First lines: words, and the digit of a version.
use Rattle.std.specs.Prelude.{ℕ, if◌then◌else◌, List, ◌++◌, Option, Some, None, Result, Ok, Err}
use Rattle.std.specs.Str.{bytes_eq}
use lib.Chars.{codes}
use Rattle.plan_base.specs.declared.stamp.Version.{Version}
use Rattle.plan_base.specs.declared.stamp.Version.TheVariants.{One, Two}
use Rattle.line_reader.specs.declared.fault.LineReason.TheVariants.{BadHeader}
use Rattle.line_reader.specs.declared.fault.LineFault.{LineFault}
use Rattle.line_reader.specs.declared.fault.LineFault.TheVariants as faults

-- the version whose first line this is, of one for each
abbrev pub version_by : List ℕ → List ℕ → List ℕ → Option Version
version_by one two line = if bytes_eq line one then Some One else (if bytes_eq line two then Some Two else None)

-- the version that a first line gives: these words, and the digit 1 or 2
abbrev pub version_in : List ℕ → List ℕ → Option Version
version_in front line = version_by (front ++ codes "1") (front ++ codes "2") line

-- what comes behind a first line, by its version
abbrev pub next_by_version : {A : Type 0} → ℕ → (Version → A) → Option Version → Result A LineFault
next_by_version number next (Some version) = Ok (next version)
next_by_version number next None = Err (faults.Line number BadHeader)

-- a first line, whose digit gives the version
abbrev pub version_line : {A : Type 0} → List ℕ → ℕ → List ℕ → (Version → A) → Result A LineFault
version_line front number line next = next_by_version number next (version_in front line)
