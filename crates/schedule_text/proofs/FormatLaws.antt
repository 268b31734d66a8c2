-- Schedules as a format of files of lines.
use Rattle.std.proofs.Common.{◌≡◌, Result, Ok, Err, sym}
use Rattle.network_config.specs.declared.schedule.Schedule.{Schedule}
use Rattle.line_reader.specs.declared.fault.LineFault.{LineFault}
use Rattle.line_reader.specs.declared.fault.LineFault.TheVariants as faults
use Rattle.line_reader.specs.Reads.{FileGives}

abbrev pub same : Schedule → Schedule
same s = s

pub gives_same : (r total : Result Schedule LineFault) → r ≡ total → FileGives same r total
gives_same (Ok s) total e = sym e
gives_same (Err faults.NoMemory) total e = tt
gives_same (Err (faults.Line n r)) total e = sym e
