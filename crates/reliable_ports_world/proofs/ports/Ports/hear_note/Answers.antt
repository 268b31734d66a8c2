use Rattle.std.proofs.Common.{refl}
use Rattle.reliable_ports_world.proofs.Hearing.{second_few}
use Rattle.reliable_ports_world.proofs.Standing.{on_ok, note_second, note_first, note_other}
use Rattle.reliable_ports_world.proofs.ports.Ports.hear_note.Goals as goal

pub hear_message-requires-clause-ready : goal.hear_message-requires-clause-ready
hear_message-requires-clause-ready g c =
    let r = c.requires.ready in
    record { state = r.state; is = r.is; few = second_few c.args.host c.args.note.now r.state c.if-host-eq2.true r.few }

pub returns-then-host-eq2-clause-goes : goal.returns-then-host-eq2-clause-goes
returns-then-host-eq2-clause-goes g c = λ s h.
    on_ok _ _ c.hear_message.result
    (λ k. note_second g.S.Services.stands c.hear_message.new.self c.args.number c.args.host c.args.note.now s c.args.text.now c.hear_message.new.text c.if-host-eq2.true k)
    (c.hear_message.ensures.goes s h)

pub returns-then-host-ne1-clause-goes : goal.returns-then-host-ne1-clause-goes
returns-then-host-ne1-clause-goes g c = λ s h.
    note_other g.S.Services.stands c.args.self.now c.args.number c.args.host c.args.note.now s c.args.text.now c.args.text.now c.if-host-eq2.false c.if-host-ne1.true refl h

pub returns-clause-goes : goal.returns-clause-goes
returns-clause-goes g c = λ s h.
    note_first g.S.Services.stands c.hear_ack.new.self c.args.number c.args.host c.args.note.now s c.args.text.now c.args.text.now c.if-host-eq2.false c.if-host-ne1.false refl (c.hear_ack.ensures.stands s h)
