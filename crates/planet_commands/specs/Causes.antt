-- Why a call of the product ended: the exit codes, and the counts of faults that causes report.
use Rattle.std.specs.Prelude.{ℕ, ◌≡◌, ◌⊎◌}
use Rattle.node_io.specs.Causes.{HasRisen}
use Rattle.node_io.specs.Sinks.{SinkState}
use Rattle.node_io.specs.Outsides.{Outside}
use Rattle.planet_commands.specs.declared.status.Cause.{Cause}
use Rattle.planet_commands.specs.declared.status.Cause.TheVariants.{Done, Usage, Refused, ReadFault, WriteFault, LinkFault, SpawnFault, NoMemory, NodesFailed}
use Rattle.planet_commands.specs.declared.status.Refusal.{Refusal}
use Rattle.planet_commands.specs.declared.status.Refusal.TheVariants.{Line, At, Frame}
use Rattle.line_reader.specs.declared.fault.LineFault.{LineFault}
use Rattle.line_reader.specs.declared.fault.LineFault.TheVariants as faults
use Rattle.packet_frame.specs.declared.fault.FrameFault.{FrameFault}
use Rattle.packet_frame.specs.declared.fault.FrameFault.TheVariants as framing
use Rattle.program_text.specs.declared.fault.TextFault.{TextFault}
use Rattle.program_text.specs.declared.fault.TextFault.TheVariants as texts
use Rattle.program_text.specs.Reasons.{fault_byte}

-- the exit code of a cause
abbrev pub code_of : Cause → ℕ
code_of Done = 0
code_of Usage = 1
code_of (Refused r) = 2
code_of ReadFault = 3
code_of WriteFault = 4
code_of LinkFault = 5
code_of SpawnFault = 6
code_of NoMemory = 7
code_of (NodesFailed h s) = 8

-- the cause of a file of lines that isn't read
abbrev pub cause_of : LineFault → Cause
cause_of (faults.Line n reason) = Refused (Line n reason)
cause_of faults.NoMemory = NoMemory

-- the cause of bytes that are no frame
abbrev pub frame_cause : FrameFault → Cause
frame_cause framing.NoMemory = NoMemory
frame_cause fault = Refused (Frame fault)

-- the cause of a text that is no program
abbrev pub text_cause : TextFault → Cause
text_cause texts.NoMemory = NoMemory
text_cause fault = Refused (At (fault_byte fault) fault)

-- a fault of writing comes only where the count of the output, of the files or of the notes rose
abbrev pub WriteRose : Outside → Outside → SinkState → SinkState → Type 0
WriteRose old new notes_old notes_new =
    HasRisen old.out.faults new.out.faults
    ⊎ (HasRisen old.files.write_faults new.files.write_faults ⊎ HasRisen notes_old.faults notes_new.faults)

-- a fault comes only where its count rose in this call
abbrev pub Explains : Cause → Outside → Outside → SinkState → SinkState → Type 0
Explains ReadFault old new notes_old notes_new = HasRisen old.files.read_faults new.files.read_faults
Explains WriteFault old new notes_old notes_new = WriteRose old new notes_old notes_new
Explains LinkFault old new notes_old notes_new = HasRisen old.link.faults new.link.faults
Explains SpawnFault old new notes_old notes_new = HasRisen old.children.faults new.children.faults
Explains Done old new notes_old notes_new = Unit {0}
Explains Usage old new notes_old notes_new = Unit {0}
Explains (Refused r) old new notes_old notes_new = Unit {0}
Explains NoMemory old new notes_old notes_new = Unit {0}
Explains (NodesFailed h s) old new notes_old notes_new = Unit {0}

-- ---- what laws say of a cause

-- a fact of the refusal, where the cause is one
abbrev pub IfRefused : Cause → (Refusal → Type 0) → Type 0
IfRefused (Refused r) P = P r
IfRefused cause P = Unit {0}

-- the wanted cause is given, or `NoMemory`, or a fault of writing where a note wasn't written
abbrev pub Gives : Cause → Cause → Type 0 → Type 0
Gives wanted given unwritten = (given ≡ wanted) ⊎ ((given ≡ NoMemory) ⊎ ((given ≡ WriteFault) × unwritten))
