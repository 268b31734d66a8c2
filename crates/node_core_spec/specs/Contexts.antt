-- The context of a visit is in order.
use Rattle.std.specs.Prelude.{ℕ, IsTrue, Option, Some, None, List, [], ◌∷◌}
use Rattle.service_api.specs.declared.ctx.Ctx.{Ctx}
use Rattle.service_api.specs.declared.router.RouteRow.{RouteRow}
use Rattle.service_api.specs.Adverts.{is_above}
use Rattle.network_config.specs.NodeRules.{DevicesAscend}

-- each route is to a host above those before it
abbrev pub RoutesAscend : Option ℕ → List RouteRow → Type 0
RoutesAscend before [] = Unit {0}
RoutesAscend before (r ∷ rs) = IsTrue (is_above before r.host.0) × RoutesAscend (Some r.host.0) rs

-- neighbours by device and routes by host, each once
pub record IsOrdered (c : Ctx) : Type 0 where
  pub neighbours : DevicesAscend c.neighbours
  pub routes : RoutesAscend None c.router
