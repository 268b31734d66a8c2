use Rattle.std.proofs.Common.{rules, tests}
use Rattle.std.specs.Prelude.{nat_lt}
use Rattle.std.proofs.lemmas.Fn.{filter_same}
use Rattle.resident_tables.proofs.passes.keep_below.Goals as goal

pub returns-clause-items : goal.returns-clause-items
returns-clause-items c = filter_same _ (λ p. nat_lt p c.args.left) _ (λ x b q k. search (rules, tests)) _ _ c.retain.ensures.filtered
