use Rattle.std.proofs.Common.{rules, tests}
use Rattle.std.proofs.lemmas.Fn.{filter_same}
use Rattle.node_io.specs.Spawners.{is_other}
use Rattle.host_io.proofs.host_spawner.forget.Goals as goal

pub returns : goal.returns
returns c = filter_same _ (is_other c.args.child) _ (λ x b q k. search (rules, tests)) _ _ c.retain.ensures.filtered
