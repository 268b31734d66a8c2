-- Refusals of files of lines that are not `NoMemory`, and hold none.
use Rattle.line_reader.specs.declared.fault.LineReason.{LineReason}
use Rattle.line_reader.specs.declared.fault.LineReason.TheVariants.{ProgramRefused}
use Rattle.line_reader.specs.declared.fault.LineFault.{LineFault}
use Rattle.line_reader.specs.declared.fault.LineFault.TheVariants as faults
use Rattle.file_laws.specs.ProgramRefusals.{HoldsNoMemory}

-- a program's text is refused for no `NoMemory`
abbrev pub ReasonHolds : LineReason → Type 0
ReasonHolds (ProgramRefused why) = HoldsNoMemory why
ReasonHolds _ = Unit {0}

-- a refusal is at a line, and its reason holds none
abbrev pub FaultHolds : LineFault → Type 0
FaultHolds (faults.Line n reason) = ReasonHolds reason
FaultHolds faults.NoMemory = ⊥
