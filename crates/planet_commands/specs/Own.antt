-- Refusals that are for a reason of the file's own: none is `NoMemory`, or holds it.
use Rattle.planet_commands.specs.declared.status.Refusal.{Refusal}
use Rattle.planet_commands.specs.declared.status.Refusal.TheVariants.{Line, At, Frame, BadHex, TooLong, Log, LogTooLong}
use Rattle.file_laws.specs.ProgramRefusals as texts
use Rattle.file_laws.specs.FrameRefusals as frames
use Rattle.file_laws.specs.Refusals.{ReasonHolds}

-- a refusal for a reason of the file's own
abbrev pub IsOwn : Refusal → Type 0
IsOwn (Line n reason) = ReasonHolds reason
IsOwn (At byte fault) = texts.HoldsNoMemory fault
IsOwn (Frame fault) = frames.HoldsNoMemory fault
IsOwn BadHex = Unit {0}
IsOwn TooLong = Unit {0}
IsOwn (Log k n reason) = ReasonHolds reason
IsOwn (LogTooLong k) = Unit {0}
