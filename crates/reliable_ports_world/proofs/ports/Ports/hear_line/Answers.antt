use Rattle.std.proofs.Common.{sym}
use Rattle.reliable_ports_world.specs.Saying.{as_noted}
use Rattle.reliable_ports_world.proofs.Standing.{on_ok, goes_still}
use Rattle.reliable_ports_world.proofs.Lines.{nothing_goes, other_goes, note_goes, note_few}
use Rattle.reliable_ports_world.proofs.ports.Ports.hear_line.Goals as goal

pub returns-then-is_nothing-clause-goes : goal.returns-then-is_nothing-clause-goes
returns-then-is_nothing-clause-goes g c = λ s h.
    on_ok _ _ c.put_told.result
    (λ e. nothing_goes g.S.Services.stands c.args.self.now c.args.number c.args.line.now s c.args.text.now c.put_told.new.out (sym c.if-is_nothing.ensures) (record { is = h; text = e }))
    c.put_told.ensures.whole

pub returns-in_default-clause-goes : goal.returns-in_default-clause-goes
returns-in_default-clause-goes g c = λ s h.
    other_goes g.S.Services.stands c.args.self.now c.args.number c.args.line.now s c.args.text.now c.args.text.now (sym c.if-is_nothing.ensures) c.in_default.ensures
    (goes_still g.S.Services.stands c.args.self.now s c.args.text.now h)

pub hear_note-requires-clause-ready : goal.hear_note-requires-clause-ready
hear_note-requires-clause-ready g c =
    let r = c.requires.ready in
    record { state = r.state; is = r.is; few = note_few c.args.line.now r.state (as_noted c.in-Some.heard) c.in-Some.ensures r.few }

pub returns-clause-goes : goal.returns-clause-goes
returns-clause-goes g c = λ s h.
    on_ok _ _ c.hear_note.result
    (λ k. note_goes g.S.Services.stands c.hear_note.new.self c.args.number c.args.line.now s c.args.text.now c.hear_note.new.text (as_noted c.in-Some.heard) c.in-Some.ensures k)
    (c.hear_note.ensures.goes s h)
