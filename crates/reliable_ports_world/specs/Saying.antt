-- What a note says, and whose it is, as definitions have it.
use Rattle.std.specs.Prelude.{ℤ}
use Rattle.reliable_ports.specs.Ends.{Body}
use Rattle.plan_base.specs.declared.ids.Host.{Host}
use Rattle.service_api.specs.declared.answer.Note.{Note}
use Rattle.reliable_ports_world.specs.declared.notes.Given.{Given}
use Rattle.reliable_ports_world.specs.declared.notes.HostNote.{HostNote}

-- the int and the bytes
abbrev pub as_pair : Given → ℤ × Body
as_pair g = (g.number, g.body.now)

-- the host and its note
abbrev pub as_noted : HostNote → Host × Note
as_noted x = (x.host, x.note.now)
