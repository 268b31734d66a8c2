-- What the table of a node's routes keeps, and the routes that are kept beside it.
use Rattle.std.specs.Prelude.{◌≡◌, ◌<◌, ◌^◌, List, Option, IfSome}
use Rattle.dv_routing.specs.declared.table.Table.{Table}
use Rattle.service_api.specs.declared.router.RouteRow.{RouteRow}
use Rattle.dv_routing.specs.Routing.{Routing, all_routes}
use Rattle.dv_routing.specs.Stands.{Stands}
use Rattle.node_core_spec.specs.Fits.{HostsFit}

-- a table that stands for some adverts heard, in a network of at most 32 ascending hosts
pub record IsHeard (t : Table) : Type 0 where
  pub routing : Routing
  pub stands : Stands routing t
  pub here : routing.here.0 < 2 ^ 32
  pub hosts : HostsFit routing.hosts

-- these are the routes that a table gives, whatever it heard
abbrev pub TellsAll : Table → List RouteRow → Type 0
TellsAll t rows = (r : Routing) → Stands r t → rows ≡ all_routes r

-- the routes that are kept beside a table, if there are any, are those that it gives
abbrev pub IsKept : Table → Option (List RouteRow) → Type 0
IsKept t rows = IfSome rows (TellsAll t)
