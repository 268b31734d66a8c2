-- Where the packets of a visit go.
use Rattle.std.specs.Prelude.{◌≡◌, ◌⊎◌, true, List, Contains}
use Rattle.std.specs.Str.{bytes_eq}
use Rattle.plan_base.specs.declared.ids.Host.{Host}
use Rattle.plan_base.specs.declared.ids.Dev.{Dev}
use Rattle.service_api.specs.declared.router.RouteRow.{RouteRow}
use Rattle.service_api.specs.declared.router.Hop.TheVariants.{To}
use Rattle.service_api.specs.declared.ctx.Ctx.{Ctx}
use Rattle.service_api.specs.Routes.{hop, default_route}
use Rattle.plan_meaning.specs.declared.sent.Sent.{Sent}

-- a send goes by the default route, and over the device of its host's route, over device 0 to the node itself, or over a
-- neighbour's device to that neighbour
pub record IsLed (here : Host) (neighbours : List (Host × Dev)) (router : List RouteRow) (s : Sent) : Type 0 where
  pub default : bytes_eq s.packet.route default_route ≡ true
  pub leads : ((m : Host) × (hop router s.packet.route here s.packet.dest ≡ To m s.dev))
      ⊎ (((s.dev.0 ≡ 0) × (s.packet.dest ≡ here)) ⊎ Contains neighbours (s.packet.dest, s.dev))

-- the same in the surroundings of a visit
abbrev pub IsLedIn : Ctx → Sent → Type 0
IsLedIn ctx s = IsLed ctx.here ctx.neighbours ctx.router s
