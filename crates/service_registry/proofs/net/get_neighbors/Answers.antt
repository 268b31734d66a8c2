use Rattle.std.proofs.Common.{map}
use Rattle.plan_base.specs.declared.tree.Value.TheVariants as value
use Rattle.service_api.specs.Services.{refused_call}
use Rattle.service_registry_spec.specs.Answers.{given_answer, hop_value}
use Rattle.service_registry_spec.specs.Offered.{hop_type}
use Rattle.service_registry.proofs.ArgumentReads.{some_refused, none_given, meets_as}
use Rattle.service_registry.proofs.net.get_neighbors.Goals as goal

pub returns-in-empty : goal.returns-in-empty
returns-in-empty c = λ a rows.
    let s = given_answer (value.List hop_type (map (λ n. hop_value n.0 n.1) c.args.ctx.now.neighbours)) rows in
    meets_as _ s rows rows c.neighbours.result (none_given s c.args.args.now rows c.in-empty.len_below) (c.neighbours.ensures rows)

pub returns-in-len1-up : goal.returns-in-len1-up
returns-in-len1-up c =
    λ a rows. meets_as _ (refused_call rows) rows rows c.no_such_service.result
    (some_refused (given_answer (value.List hop_type (map (λ n. hop_value n.0 n.1) c.args.ctx.now.neighbours)) rows) c.args.args.now rows
    c.in-len1-up.len_at_least) (c.no_such_service.ensures rows)
