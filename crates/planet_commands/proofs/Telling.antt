-- Notes that are written, and what they leave.
use Rattle.std.proofs.Common.{◌≡◌, List, ℕ, inl, inr, refl, subst}
use Rattle.node_io.specs.Causes.{HasRisen}
use Rattle.node_io.specs.Sinks.{SinkState, Writes, FailsIn}
use Rattle.planet_commands.specs.Causes.{Gives}
use Rattle.planet_commands.specs.Notes.{note_text, Notes, told, no_memory, failed, Pushed, written, cut}
use Rattle.planet_commands.specs.declared.status.Cause.{Cause}
use Rattle.planet_commands.specs.declared.status.Cause.TheVariants.{NoMemory, WriteFault}

pub pushed_whole : (cause : Cause) (note : List ℕ) (a b : SinkState) → note ≡ note_text cause → Writes a b note → Pushed cause a b cause
pushed_whole cause note a b e w = written (subst (Writes a b) e w)

pub pushed_cut : (cause : Cause) (note : List ℕ) (a b : SinkState) → note ≡ note_text cause → FailsIn a b note → Pushed cause a b WriteFault
pushed_cut cause note a b e f = cut (subst (FailsIn a b) e f)

-- the note of what was found
pub notes_found : (found given : Cause) (a b : SinkState) → Pushed found a b given → Notes found a b given
notes_found found given a b (written w) = told w
notes_found found given a b (cut f) = failed found (inl refl) f

-- that of `NoMemory`
pub notes_poor : (found given : Cause) (a b : SinkState) → Pushed NoMemory a b given → Notes found a b given
notes_poor found given a b (written w) = no_memory w
notes_poor found given a b (cut f) = failed NoMemory (inr refl) f

-- what was found is given, or `NoMemory`, or a fault of writing where the notes failed
pub notes_give : (found given : Cause) (a b : SinkState) → Notes found a b given → Gives found given (HasRisen a.faults b.faults)
notes_give found given a b (told w) = inl refl
notes_give found given a b (no_memory w) = inr (inl refl)
notes_give found given a b (failed cause is f) = inr (inr (refl, f.rose))
