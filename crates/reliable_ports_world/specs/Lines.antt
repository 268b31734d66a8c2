-- What the lines of an event say to the ends.
use Rattle.std.specs.Prelude.{Bool, true, false, Option, Some, None}
use Rattle.plan_base.specs.declared.ids.Host.{Host}
use Rattle.service_api.specs.declared.answer.Note.{Note}
use Rattle.node_core_spec.specs.declared.acts.Act.{Act}
use Rattle.node_core_spec.specs.declared.acts.Act.TheVariants.{Noted}
use Rattle.net_world_spec.specs.declared.lines.Line.{Line}
use Rattle.net_world_spec.specs.declared.lines.Line.TheVariants.{At, Nothing}

-- the note that an act is
abbrev pub act_note : Act → Option Note
act_note (Noted x) = Some x
act_note _ = None

abbrev pub noted_at : Host → Option Note → Option (Host × Note)
noted_at h None = None
noted_at h (Some x) = Some (h, x)

-- the note that a line is, and whose
abbrev pub note_in : Line → Option (Host × Note)
note_in (At h act) = noted_at h (act_note act)
note_in _ = None

-- whether a line says that its event changed nothing
abbrev pub is_nothing : Line → Bool
is_nothing Nothing = true
is_nothing _ = false
