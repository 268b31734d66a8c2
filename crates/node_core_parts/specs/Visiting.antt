-- What a node visits of its own, and what is around a visit.
use Rattle.std.specs.Prelude.{◌≡◌, ◌≤◌, ℕ, List, length, Option, IsSome}
use Rattle.plan_base.specs.declared.name.Name.{Name}
use Rattle.plan_base.specs.declared.ids.Dev.{Dev}
use Rattle.plan_base.specs.declared.ids.Host.{Host}
use Rattle.plan_base.specs.declared.ids.Family.{Family}
use Rattle.plan_base.specs.declared.tree.Chunk.{Chunk}
use Rattle.plan_base.specs.declared.tree.Packet.{Packet}
use Rattle.service_api.specs.declared.ctx.Ctx.{Ctx}
use Rattle.service_api.specs.declared.router.RouteRow.{RouteRow}
use Rattle.service_api.specs.Routes.{default_route}
use Rattle.service_api.specs.Services.{AreGoodRows, ServiceState}

-- the family and the packet of an injection at a host with this serial number
abbrev pub own_family : Host → ℕ → Family
own_family here serial = record { source = here; serial = serial }

abbrev pub own_packet : Host → ℕ → Chunk → ℕ → Option Name → Packet
own_packet here serial chunk bound handler =
    record { family = own_family here serial; dest = here; bound = bound; route = default_route; chunk = chunk; handler = handler }

-- the context of the visit of a packet at a node with these neighbours and routes
abbrev pub around_at : Host → ℕ → Packet → List (Host × Dev) → List RouteRow → Ctx
around_at here now p neighbours router = record { here = here; source = p.family.source; purse = p.bound; now = now; neighbours = neighbours; router = router }

-- a context is that of a packet's visit, with at most 8 neighbours
pub record IsAround (ctx : Ctx) (p : Packet) : Type 0 where
  pub bound : ctx.purse ≡ p.bound
  pub source : ctx.source ≡ p.family.source
  pub near : length ctx.neighbours ≤ 8

-- a beginning of services is open, whose rows are good
pub record IsOpened (n : ServiceState) : Type 0 where
  pub rows : AreGoodRows n.rows
  pub begun : IsSome n.begun

-- services still offer the same, and the same beginning is open
pub record StaysOpen (old new : ServiceState) : Type 0 where
  pub offer : new.offer ≡ old.offer
  pub begun : new.begun ≡ old.begun
