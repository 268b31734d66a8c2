use Rattle.std.proofs.Common.{◌≤◌, length, ap, ◌∙◌, arith}
use Rattle.std.proofs.lemmas.List.{take_all}
use Rattle.dv_routing.specs.Routing.{routes_to, all_routes}
use Rattle.dv_routing.proofs.table.Table.routes.Goals as goal

pub returns : goal.returns
unfolding all_routes
returns c = λ r s.
    let items = c.as_slice-host-items.result.now in
    let past : length items ≤ c.loop-host.host-index = omega arith in
    c.loop-host.invariant r s ∙ ap (routes_to r) (take_all c.loop-host.host-index items past ∙ (c.as_slice-host-items.ensures ∙ s.hosts))
