use Rattle.std.proofs.Common.{Err, refl, sym, ap, ◌∙◌}
use Rattle.reliable_ports.specs.Ends.{is_full}
use Rattle.reliable_ports_world.proofs.Standing.{on_ok, still, not_full, offer_goes, offer_full}
use Rattle.reliable_ports_world.proofs.ports.Ports.offer.Goals as goal

pub returns-in-Ok-clause-goes : goal.returns-in-Ok-clause-goes
returns-in-Ok-clause-goes g c = λ s h.
    let room = not_full c.args.self.now.sender (λ e. absurd (let k = c.in-Ok.ensures.full.1 e in cc)) in
    offer_goes g.S.Services.stands c.args.self.now _ c.args.number c.args.body.now s c.args.text.now (ap is_full (sym h.sender) ∙ room) h refl c.in-Ok.ensures.ok refl refl refl

pub returns-in-Err-Full-clause-goes : goal.returns-in-Err-Full-clause-goes
returns-in-Err-Full-clause-goes g c = λ s h.
    on_ok _ _ c.put_told.result
    (λ e.
    offer_full g.S.Services.stands _ c.args.number c.args.body.now s c.args.text.now c.put_told.new.out (ap is_full (sym h.sender) ∙ c.in-Err-Full.ensures.full.0 (ap Err c.in-Err-Full.field-0-is)) e
    (still g.S.Services.stands c.args.self.now _ s h refl c.in-Err-Full.ensures.err refl refl refl))
    c.put_told.ensures.whole
