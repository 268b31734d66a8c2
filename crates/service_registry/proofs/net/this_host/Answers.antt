use Rattle.plan_base.specs.declared.tree.Value.TheVariants as value
use Rattle.service_api.specs.Services.{refused_call}
use Rattle.service_registry_spec.specs.Answers.{given_answer}
use Rattle.service_registry.proofs.ArgumentReads.{some_refused, meets_as}
use Rattle.service_registry.proofs.net.this_host.Goals as goal

pub returns-in-len1-up : goal.returns-in-len1-up
returns-in-len1-up c =
    λ a rows. meets_as _ (refused_call rows) rows rows c.no_such_service.result
    (some_refused (given_answer (value.Host c.args.ctx.now.here) rows) c.args.args.now rows c.in-len1-up.len_at_least) (c.no_such_service.ensures rows)
