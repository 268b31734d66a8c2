use Rattle.std.proofs.Common.{None, ap, ◌∙◌}
use Rattle.dv_routing.specs.Lanes.{best_lane}
use Rattle.dv_routing.proofs.Tables.{table_own, table_best}
use Rattle.dv_routing.proofs.table.Table.route_near.Goals as goal

pub returns-then-self-host : goal.returns-then-self-host
returns-then-self-host c = λ r s. table_own r c.args.self.now c.args.host s c.if-self-host.true

pub returns : goal.returns
returns c = λ r s.
    table_best r c.args.self.now c.args.host c.best_route.result s c.if-self-host.false
    (c.best_route.ensures r r.neighbours (c.as_slice.ensures.value ∙ s.lanes) ∙ ap (best_lane c.args.host None) c.as_slice.ensures.value)
