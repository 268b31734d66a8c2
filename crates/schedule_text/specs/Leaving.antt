-- What a reader of a line leaves, beside the stage that comes next.
use Rattle.std.specs.Prelude.{◌≡◌, Result, Ok, Err}
use Rattle.line_reader.specs.declared.fault.LineReason.{LineReason}
use Rattle.line_reader.specs.declared.fault.LineFault.{LineFault}
use Rattle.line_reader.specs.declared.fault.LineError.{LineError}
use Rattle.line_reader.specs.Reads.{Fails, FileFails}
use Rattle.schedule_text.specs.declared.reading.Reading.{Reading}
use Rattle.schedule_text.specs.declared.reading.Stage.{Stage}

-- the stage that comes next and the reading that was left are what is read
abbrev pub LeavesStage : Result Stage LineError → Reading → Result (Stage × Reading) LineReason → Type 0
LeavesStage (Ok stage) new read = read ≡ Ok (stage, new)
LeavesStage (Err e) new read = Fails e read

-- the same for a line of a file
abbrev pub LeavesStep : Result Stage LineFault → Reading → Result (Stage × Reading) LineFault → Type 0
LeavesStep (Ok stage) new read = read ≡ Ok (stage, new)
LeavesStep (Err e) new read = FileFails e read
