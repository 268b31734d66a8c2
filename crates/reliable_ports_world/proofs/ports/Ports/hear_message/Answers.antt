use Rattle.std.proofs.lemmas.Int.{to_z-of_z}
use Rattle.std.proofs.Common.{w64, rules, ◌<◌, ◌^◌, length, refl, sym, ◌∙◌, subst}
use Rattle.reliable_ports.specs.Ends.{Receiving, hears}
use Rattle.reliable_ports_world.specs.Ports.{said_to, heard_by}
use Rattle.reliable_ports_world.specs.Saying.{as_pair}
use Rattle.reliable_ports_world.proofs.Hearing.{message_few, before_few}
use Rattle.reliable_ports_world.proofs.Standing.{on_ok, heard_stands, message_goes, message_none}
use Rattle.reliable_ports_world.proofs.ports.Ports.hear_message.Goals as goal

pub returns-in_default-clause-goes : goal.returns-in_default-clause-goes
returns-in_default-clause-goes g c = λ s h. message_none g.S.Services.stands c.args.self.now c.args.number (said_to 1 c.args.note.now) s c.args.text.now c.in_default.ensures h

pub heard-requires : goal.heard-requires
heard-requires g c =
    let r = c.requires.ready in
    let few = before_few (said_to 1 c.args.note.now) (as_pair c.in-Some.given) r.state c.in-Some.ensures r.few in
    subst (λ (x : Receiving). length x.delivered < 2 ^ 62) (sym r.is.receiver) few

pub acknowledge-requires-clause-ready : goal.acknowledge-requires-clause-ready
acknowledge-requires-clause-ready g c =
    let r = c.requires.ready in
    record { state = heard_by c.heard.new.self r.state; is = heard_stands g.S.Services.stands c.args.self.now _ r.state r.is refl refl refl refl }

pub acknowledge-requires-clause-few : goal.acknowledge-requires-clause-few
acknowledge-requires-clause-few g c =
    let r = c.requires.ready in
    let few = message_few (said_to 1 c.args.note.now) (as_pair c.in-Some.given) r.state c.in-Some.ensures r.few in
    let number = to_z-of_z w64 c.number.result (search rules) ∙ c.number.ensures in
    let same = c.in_ok-heard.ensures.state ∙ (λ i. hears (number i) (c.body.ensures i) (r.is.receiver i)) in
    subst (λ (x : Receiving). length x.delivered < 2 ^ 62) (sym same) few

pub returns-clause-goes : goal.returns-clause-goes
returns-clause-goes g c = λ s h.
    let number = to_z-of_z w64 c.number.result (search rules) ∙ c.number.ensures in
    let same = c.in_ok-heard.ensures.state ∙ (λ i. hears (number i) (c.body.ensures i) (h.receiver i)) in
    on_ok _ _ c.acknowledge.result
    (λ k. message_goes g.S.Services.stands c.acknowledge.new.self c.args.number (said_to 1 c.args.note.now) (as_pair c.in-Some.given) c.heard.new.self s c.args.text.now c.acknowledge.new.text c.in-Some.ensures same k)
    (c.acknowledge.ensures.goes (heard_by c.heard.new.self s) (heard_stands g.S.Services.stands c.args.self.now _ s h refl refl refl refl))
