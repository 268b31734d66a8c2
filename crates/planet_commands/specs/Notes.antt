-- The notes: one line for each cause but Done, and how a call ends with its note.
use Rattle.std.specs.Prelude.{ℕ, ◌≡◌, ◌⊎◌, List, [], ◌++◌}
use Rattle.std.specs.Fmt.{decimal}
use lib.Chars.{codes}
use Rattle.node_io.specs.Sinks.{SinkState, Writes, FailsIn}
use Rattle.program_text.specs.declared.fault.TextFault.{TextFault}
use Rattle.program_text.specs.Reasons as texts
use Rattle.packet_frame.specs.Reasons as frames
use Rattle.planet_commands.specs.declared.status.Cause.{Cause}
use Rattle.planet_commands.specs.declared.status.Cause.TheVariants.{Done, Usage, Refused, ReadFault, WriteFault, LinkFault, SpawnFault, NoMemory, NodesFailed}
use Rattle.planet_commands.specs.declared.status.Refusal.{Refusal}
use Rattle.planet_commands.specs.declared.status.Refusal.TheVariants.{Line, At, Frame, BadHex, TooLong, Log, LogTooLong}
use Rattle.line_reader.specs.declared.fault.LineReason.{LineReason}
use Rattle.line_reader.specs.declared.fault.LineReason.TheVariants.{BadHeader, BadWord, BadNumber, UnknownHost, UnknownProgram, TwiceNamed}
use Rattle.line_reader.specs.declared.fault.LineReason.TheVariants.{TooMany, ProgramRefused, BadArgument}

-- the name of a reason
abbrev pub reason_name : LineReason → List ℕ
reason_name BadHeader = codes "BadHeader"
reason_name BadWord = codes "BadWord"
reason_name BadNumber = codes "BadNumber"
reason_name UnknownHost = codes "UnknownHost"
reason_name UnknownProgram = codes "UnknownProgram"
reason_name TwiceNamed = codes "TwiceNamed"
reason_name TooMany = codes "TooMany"
reason_name (ProgramRefused why) = codes "ProgramRefused"
reason_name BadArgument = codes "BadArgument"

-- where a program is refused, counted in its text, and why
abbrev pub refused_text : TextFault → List ℕ
refused_text why = codes " at " ++ (decimal (texts.fault_byte why) ++ (codes ": " ++ texts.reason_text why))

-- a reason, with the refusal of the program where it is one
abbrev pub reason_text : LineReason → List ℕ
reason_text (ProgramRefused why) = codes "ProgramRefused" ++ refused_text why
reason_text reason = reason_name reason

-- the note of a refusal
abbrev pub refusal_text : Refusal → List ℕ
refusal_text (Line n reason) = codes "planet: line " ++ (decimal n ++ (codes ": " ++ (reason_text reason ++ codes "\n")))
refusal_text (At byte fault) = codes "planet: at " ++ (decimal byte ++ (codes ": " ++ (texts.reason_text fault ++ codes "\n")))
refusal_text (Frame refusal) = codes "planet: frame " ++ (frames.reason_text refusal ++ codes "\n")
refusal_text BadHex = codes "planet: BadHex\n"
refusal_text TooLong = codes "planet: TooLong\n"
refusal_text (Log k n reason) = codes "planet: log " ++ (decimal k ++ (codes " line " ++ (decimal n ++ (codes ": " ++ (reason_text reason ++ codes "\n")))))
refusal_text (LogTooLong k) = codes "planet: log " ++ (decimal k ++ codes " TooLong\n")

-- the note of a cause
abbrev pub note_text : Cause → List ℕ
note_text Done = []
note_text Usage =
    codes "planet: usage: check FILE | show FILE | replay FILE | node FILE TURNS | inject FILE | fleet FILE | grow SEED N | cut FILE | gather PORT FILE | port FILE | audit FILE\n"
note_text (Refused r) = refusal_text r
note_text ReadFault = codes "planet: read fault\n"
note_text WriteFault = codes "planet: write fault\n"
note_text LinkFault = codes "planet: link fault\n"
note_text SpawnFault = codes "planet: spawn fault\n"
note_text NoMemory = codes "planet: no memory\n"
note_text (NodesFailed h s) = codes "planet: node @" ++ (decimal h.0 ++ (codes " failed with " ++ (decimal s ++ codes "\n")))

-- the note of what was found was written; or, where there was no memory for it, that of `NoMemory`; or the notes failed in
-- one of these
pub data Notes (found : Cause) (old new : SinkState) : Cause → Type 0 where
  told : Writes old new (note_text found) → Notes found old new found
  no_memory : Writes old new (note_text NoMemory) → Notes found old new NoMemory
  failed : (cause : Cause) → (cause ≡ found) ⊎ (cause ≡ NoMemory) → FailsIn old new (note_text cause) → Notes found old new WriteFault

-- the note of this cause was written, or the notes failed in it
pub data Pushed (cause : Cause) (old new : SinkState) : Cause → Type 0 where
  written : Writes old new (note_text cause) → Pushed cause old new cause
  cut : FailsIn old new (note_text cause) → Pushed cause old new WriteFault
