use Rattle.std.proofs.Common.{◌≡◌, take}
use Rattle.dv_routing.specs.Routing.{Routing, routes_to}
use Rattle.dv_routing.specs.Stands.{Stands}
use Rattle.dv_routing.proofs.table.Table.routes.Given as goal

abbrev pub invariant-loop-host : goal.invariant-loop-host
invariant-loop-host l = (r : Routing) → Stands r l.self → l.rows ≡ routes_to r (take l.host-index l.host-items)
