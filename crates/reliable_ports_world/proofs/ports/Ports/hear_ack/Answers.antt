use Rattle.std.proofs.lemmas.Int.{to_z-of_z}
use Rattle.std.proofs.Common.{w64, rules, refl, ◌∙◌}
use Rattle.reliable_ports.specs.Ends.{number_of, with_ack}
use Rattle.reliable_ports_world.specs.Ports.{said_to}
use Rattle.reliable_ports_world.specs.Saying.{as_pair}
use Rattle.reliable_ports_world.proofs.Standing.{acked_stands, ack_goes, ack_none}
use Rattle.reliable_ports_world.proofs.ports.Ports.hear_ack.Goals as goal

pub returns-in_default-clause-stands : goal.returns-in_default-clause-stands
returns-in_default-clause-stands g c = λ s h. ack_none g.S.Services.stands c.args.self.now (said_to 2 c.args.note.now) s c.in_default.ensures h

pub returns-clause-stands : goal.returns-clause-stands
returns-clause-stands g c = λ s h.
    let number = to_z-of_z w64 c.number.result (search rules) ∙ c.number.ensures in
    let same = c.heard.ensures.state ∙ (λ i. with_ack (number_of (number i)) (h.sender i)) in
    ack_goes g.S.Services.stands _ (said_to 2 c.args.note.now) (as_pair c.in-Some.given) c.heard.new.self s c.in-Some.ensures same (acked_stands g.S.Services.stands c.args.self.now _ s h refl refl refl refl)
