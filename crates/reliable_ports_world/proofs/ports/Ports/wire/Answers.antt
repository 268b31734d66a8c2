use Rattle.std.proofs.Common.{sym, ◌∙◌, subst}
use Rattle.reliable_ports_world.specs.Ports.{makes, hears}
use Rattle.reliable_ports_world.specs.Limits.{HearsFew}
use Rattle.reliable_ports_world.specs.Told.{lines_told}
use Rattle.reliable_ports_world.specs.Stands.{Goes}
use Rattle.reliable_ports_world.proofs.Standing.{on_ok}
use Rattle.reliable_ports_world.proofs.ports.Ports.wire.Goals as goal

pub make-requires-clause-ready : goal.make-requires-clause-ready
make-requires-clause-ready g c = record { state = c.requires.ready.state; is = c.requires.ready.is }

pub hear-requires-clause-ready : goal.hear-requires-clause-ready
hear-requires-clause-ready g c =
    let r = c.requires.ready in
    let made = c.in_ok-lines.ensures.made r.state r.is in
    record { state = makes c.args.event r.state; is = made.is; few = subst (λ ls. HearsFew ls (makes c.args.event r.state)) (sym (c.as_slice.ensures ∙ made.list)) r.few }

pub returns-clause-goes : goal.returns-clause-goes
returns-clause-goes g c = λ s h.
    let made = c.in_ok-lines.ensures.made s h in
    let is = c.as_slice.ensures ∙ made.list in
    let t = makes c.args.event s in
    on_ok _ _ c.hear.result
    (λ k. subst (λ ls. Goes g.S.Services.stands c.hear.new.self (hears ls t) (lines_told c.args.number ls t) c.args.text.now c.hear.new.text) is k)
    (c.hear.ensures.goes t made.is)
