-- A visit of a packet by itself: the meaning of its chunk, and what it leaves of the services.
use Rattle.std.specs.Prelude.{◌≡◌}
use Rattle.plan_base.specs.declared.tree.Packet.{Packet}
use Rattle.service_api.specs.declared.ctx.Ctx.{Ctx}
use Rattle.service_api.specs.Services.{ServiceState, begun_now, made_ready}
use Rattle.plan_meaning.specs.declared.outcome.Visit.{Visit}
use Rattle.plan_meaning.specs.Visit.{IsVisit, allowance}
use Rattle.node_core_parts.specs.Turns.{closed_services, is_spent}

-- the visit was made, and its changes may be kept
pub record IsMade (p : Packet) (ctx : Ctx) (old : ServiceState) (r : Visit) (new : ServiceState) : Type 0 where
  pub after : ServiceState
  pub visit : IsVisit allowance p.chunk ctx p.family old r after
  pub ready : new ≡ made_ready after

-- the visit is that of the meaning from an open `begin`, and the services are closed after it
pub record IsVisited (p : Packet) (ctx : Ctx) (old : ServiceState) (r : Visit) (new : ServiceState) : Type 0 where
  pub after : ServiceState
  pub visit : IsVisit allowance p.chunk ctx p.family (begun_now old) r after
  pub ends : new ≡ closed_services (is_spent r.outcome) after
