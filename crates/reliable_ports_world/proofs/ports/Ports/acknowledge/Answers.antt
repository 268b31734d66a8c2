use Rattle.std.proofs.Common.{Err, refl, ap, ◌∙◌, arith}
use Rattle.reliable_ports.specs.Ends.{ack_from}
use Rattle.reliable_ports_world.specs.Ports.{first_host, second_pays}
use Rattle.reliable_ports_world.proofs.Standing.{on_ok, still, second_paid, acks_made, acks_unpaid}
use Rattle.reliable_ports_world.proofs.ports.Ports.acknowledge.Goals as goal

pub make-requires-clause-ready : goal.make-requires-clause-ready
make-requires-clause-ready g c =
    let r = c.requires.ready in
    record { state = second_pays r.state; is = second_paid g.S.Services.stands c.args.self.now _ r.state r.is refl refl refl refl c.in-Ok.ensures.paid }

pub returns-in_ok-make-in-Ok-clause-goes : goal.returns-in_ok-make-in-Ok-clause-goes
returns-in_ok-make-in-Ok-clause-goes g c = λ s h.
    let paid = c.in-Ok.ensures.paid in
    let same = h.second in
    acks_made g.S.Services.stands c.make.new.self c.args.number s c.in-Ok.chunk c.injection-event.result c.args.text.now (omega (arith, paid, same))
    (c.in-Ok.ensures.chunk ∙ ap (ack_from first_host) h.receiver) c.injection-event.ensures.event
    (c.in_ok-make-in-Ok.ensures.made (second_pays s) (second_paid g.S.Services.stands c.args.self.now _ s h refl refl refl refl paid)).is

pub returns-in-Err-NoBound-clause-goes : goal.returns-in-Err-NoBound-clause-goes
returns-in-Err-NoBound-clause-goes g c = λ s h.
    let low = c.in-Err-NoBound.ensures.no_bound.0 (ap Err c.in-Err-NoBound.field-0-is) in
    let same = h.second in
    on_ok _ _ c.put_told.result (λ e.
    acks_unpaid g.S.Services.stands _ c.args.number s c.args.text.now c.put_told.new.out (omega (arith, low, same))
    (still g.S.Services.stands c.args.self.now _ s h refl refl refl refl c.in-Err-NoBound.ensures.err) e) c.put_told.ensures.whole
