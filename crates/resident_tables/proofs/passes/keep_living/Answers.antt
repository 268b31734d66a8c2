use Rattle.std.proofs.Common.{rules, tests}
use Rattle.std.proofs.lemmas.Fn.{filter_same}
use Rattle.service_api.specs.Rows.{is_live}
use Rattle.resident_tables.proofs.passes.keep_living.Goals as goal

pub returns-clause-items : goal.returns-clause-items
returns-clause-items c = filter_same _ (is_live c.args.now) _ (λ x b q k. search (rules, tests)) _ _ c.retain.ensures.filtered
