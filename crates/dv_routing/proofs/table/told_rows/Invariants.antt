use Rattle.std.proofs.Common.{◌≡◌, take}
use Rattle.std.specs.Prelude.{map}
use Rattle.dv_routing.specs.Routing.{advert_row}
use Rattle.dv_routing.proofs.table.told_rows.Given as goal

abbrev pub invariant-loop-route : goal.invariant-loop-route
invariant-loop-route l = l.rows ≡ map advert_row (take l.route-index l.routes)
