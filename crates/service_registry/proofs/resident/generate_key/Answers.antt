use Rattle.service_api.specs.Rows.{fresh_key}
use Rattle.service_api.specs.Services.{refused_call}
use Rattle.service_registry_spec.specs.Answers.{key_answer}
use Rattle.service_registry.specs.RegistryState.{rows_over}
use Rattle.service_registry.proofs.ArgumentReads.{some_refused, meets_as}
use Rattle.service_registry.proofs.resident.generate_key.Goals as goal

pub returns-in-len1-up-clause-meets : goal.returns-in-len1-up-clause-meets
returns-in-len1-up-clause-meets c = λ base a ctx.
    let rows = rows_over base c.args.changes.now in
    meets_as _ (refused_call rows) rows rows c.no_such_service.result (some_refused (key_answer (fresh_key rows.«next») rows) c.args.args.now rows c.in-len1-up.len_at_least) (c.no_such_service.ensures rows)
