use Rattle.std.proofs.Common.{◌∙◌, sym}
use Rattle.std.specs.Option.{option_copied}
use Rattle.service_api.specs.Services.{refused_call}
use Rattle.service_registry_spec.specs.Serving.{serve_at}
use Rattle.service_registry.specs.RegistryState.{rows_over}
use Rattle.service_registry.specs.Packages.{present_of}
use Rattle.service_registry.proofs.ArgumentReads.{meets_as}
use Rattle.service_registry.proofs.Kept.{served_none, served_some}
use Rattle.service_registry.proofs.serving.answer_call.Goals as goal

pub returns-in_default-clause-meets : goal.returns-in_default-clause-meets
returns-in_default-clause-meets c =
    let rows = rows_over c.args.base.now c.args.changes.now in
    meets_as _ (refused_call rows) rows rows c.no_such_service.result
    (served_none (present_of c.args.there) c.args.svc.now c.args.args.now c.args.ctx.now rows (sym c.in_default.is ∙ c.installed_service.ensures))
    (c.no_such_service.ensures rows)

pub returns-clause-meets : goal.returns-clause-meets
returns-clause-meets c =
    let rows = rows_over c.args.base.now c.args.changes.now in
    meets_as _ (serve_at c.in_ok-found.found c.in-Some.service c.args.args.now c.args.ctx.now rows) rows (rows_over c.args.base.now c.served_at-answer.new.changes) c.served_at-answer.result
    (served_some (present_of c.args.there) c.args.svc.now c.args.args.now c.args.ctx.now rows c.in-Some.service c.in_ok-found.found (sym c.in-Some.is ∙ c.installed_service.ensures) c.in_ok-found.ensures)
    c.served_at-answer.ensures.meets

pub returns-in-Some-type_at_hand-clause-meets : goal.returns-in-Some-type_at_hand-clause-meets
returns-in-Some-type_at_hand-clause-meets c =
    let rows = rows_over c.args.base.now c.args.changes.now in
    let known = option_copied c.in-Some-type_at_hand.known in
    meets_as _ (serve_at known c.in-Some.service c.args.args.now c.args.ctx.now rows) rows (rows_over c.args.base.now c.served_by-answer.new.changes) c.served_by-answer.result
    (served_some (present_of c.args.there) c.args.svc.now c.args.args.now c.args.ctx.now rows c.in-Some.service known (sym c.in-Some.is ∙ c.installed_service.ensures) c.in-Some-type_at_hand.ensures)
    c.served_by-answer.ensures.meets
