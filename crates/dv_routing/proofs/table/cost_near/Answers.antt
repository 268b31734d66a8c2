use Rattle.std.proofs.Common.{ap, ◌∷◌, ◌∙◌}
use Rattle.dv_routing.specs.Lanes.{known_cost}
use Rattle.dv_routing.proofs.Tables.{known_near}
use Rattle.dv_routing.proofs.table.cost_near.Goals as goal

pub returns-in-Some : goal.returns-in-Some
returns-in-Some c = λ r d e.
    c.cost_or.ensures ∙ (ap (λ k. known_cost (k ∷ c.args.known.now) c.args.host) c.in-Some.ensures.lookup.1 ∙ known_near r d c.args.known.now c.args.at _ c.args.host e c.in-Some.ensures.lookup.0)
