use Rattle.std.proofs.Common.{None, Err, refl, sym, ap, ◌∙◌, subst, arith, true≢false}
use Rattle.network_config.specs.declared.event.WorldEvent.TheVariants as event
use Rattle.reliable_ports.specs.Ends.{held_at}
use Rattle.reliable_ports_world.specs.Ports.{first_host, first_pays}
use Rattle.reliable_ports_world.specs.Limits.{WireFew}
use Rattle.reliable_ports_world.proofs.Standing.{on_ok, still, held_some, held_none, first_paid, transmit_none, transmit_unpaid, transmit_goes}
use Rattle.reliable_ports_world.proofs.ports.Ports.transmit.Goals as goal

pub wire-requires-clause-ready : goal.wire-requires-clause-ready
wire-requires-clause-ready g c =
    let r = c.requires.ready in
    let b = held_some c.args.seq c.args.self.now.sender (λ n. absurd (let k = c.in-Ok.ensures.not_held.1 n in cc)) in
    let made = c.injection-event.ensures.event ∙ ap (λ k. event.Inject first_host k 4 None) (c.in-Ok.ensures.chunk b.0 b.1) in
    record {
      state = first_pays r.state;
      is = first_paid g.S.Services.stands c.args.self.now _ r.state r.is refl refl refl refl c.in-Ok.ensures.paid;
      few = subst (λ e. WireFew e (first_pays r.state)) (sym made) (r.few b.0 (ap (held_at c.args.seq) (sym r.is.sender) ∙ b.1));
    }

pub returns-in-Ok-clause-goes : goal.returns-in-Ok-clause-goes
returns-in-Ok-clause-goes g c = λ s h.
    let b = held_some c.args.seq c.args.self.now.sender (λ n. absurd (let k = c.in-Ok.ensures.not_held.1 n in cc)) in
    let made = c.injection-event.ensures.event ∙ ap (λ k. event.Inject first_host k 4 None) (c.in-Ok.ensures.chunk b.0 b.1) in
    let paid = c.in-Ok.ensures.paid in
    let same = h.first in
    on_ok _ _ c.wire.result
    (λ k.
    transmit_goes g.S.Services.stands c.wire.new.self c.args.number c.args.seq b.0 c.injection-event.result (held_at c.args.seq s.sender) s c.args.text.now c.wire.new.text
    (ap (held_at c.args.seq) (sym h.sender) ∙ b.1) (omega (arith, paid, same)) made k)
    (c.wire.ensures.goes (first_pays s) (first_paid g.S.Services.stands c.args.self.now _ s h refl refl refl refl paid))

pub returns-in-Err-NotHeld-clause-goes : goal.returns-in-Err-NotHeld-clause-goes
returns-in-Err-NotHeld-clause-goes g c = λ s h.
    let none = held_none c.args.seq c.args.self.now.sender (c.in-Err-NotHeld.ensures.not_held.0 (ap Err c.in-Err-NotHeld.field-0-is)) in
    on_ok _ _ c.put_told.result
    (λ e.
    transmit_none g.S.Services.stands _ c.args.number c.args.seq (held_at c.args.seq s.sender) s c.args.text.now c.put_told.new.out (ap (held_at c.args.seq) (sym h.sender) ∙ none) e
    (still g.S.Services.stands c.args.self.now _ s h refl refl refl c.in-Err-NotHeld.ensures.err refl))
    c.put_told.ensures.whole

pub returns-in-Err-NoBound-clause-goes : goal.returns-in-Err-NoBound-clause-goes
returns-in-Err-NoBound-clause-goes g c = λ s h.
    let unpaid = c.in-Err-NoBound.ensures.no_bound.0 (ap Err c.in-Err-NoBound.field-0-is) in
    let b = held_some c.args.seq c.args.self.now.sender (λ n. true≢false (sym unpaid.0 ∙ n)) in
    let low = unpaid.1 in
    let same = h.first in
    on_ok _ _ c.put_told-in-Err-NoBound.result
    (λ e.
    transmit_unpaid g.S.Services.stands _ c.args.number c.args.seq b.0 (held_at c.args.seq s.sender) s c.args.text.now c.put_told-in-Err-NoBound.new.out
    (ap (held_at c.args.seq) (sym h.sender) ∙ b.1) (omega (arith, low, same)) e
    (still g.S.Services.stands c.args.self.now _ s h refl refl refl c.in-Err-NoBound.ensures.err refl))
    c.put_told-in-Err-NoBound.ensures.whole
