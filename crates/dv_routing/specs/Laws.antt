-- What the laws of routes say.
use Rattle.std.specs.Prelude.{◌≡◌, ℕ, ◌+◌, ◌≤◌, true, Option, Some, None}
use Rattle.std.specs.List.{Contains}
use Rattle.plan_base.specs.declared.ids.Host.{Host}
use Rattle.plan_base.specs.declared.ids.Dev.{Dev}
use Rattle.service_api.specs.declared.router.RouteRow.{RouteRow}
use Rattle.dv_routing.specs.Routing.{Routing, near_cost, route, is_among}

-- a cost is known, and it is at most this
abbrev pub AtMost : Option ℕ → ℕ → Type 0
AtMost None c = ⊥
AtMost (Some b) c = b ≤ c

-- the second cost is no more than the first; where there was a cost, there still is one
abbrev pub NoRise : Option ℕ → Option ℕ → Type 0
NoRise None q = Unit {0}
NoRise (Some b) q = AtMost q b

-- the route to another host: it leads over a neighbour, costs one more than that neighbour's cost, no neighbour costs less, and
-- none over a lower device costs as little
pub record IsRoute (r : Routing) (x : Host) (row : RouteRow) : Type 0 where
  pub host : row.host ≡ x
  pub link : Contains r.neighbours (row.«next», row.dev)
  pub cost : (c : ℕ) × (row.cost ≡ c + 1) × (near_cost r x (row.«next», row.dev) ≡ Some c)
  pub cheapest : (link : Host × Dev) (c : ℕ) → Contains r.neighbours link → near_cost r x link ≡ Some c → row.cost ≤ c + 1
  pub lowest : (link : Host × Dev) (c : ℕ) → Contains r.neighbours link → near_cost r x link ≡ Some c → row.cost ≡ c + 1 → row.dev.0 ≤ link.1.0

-- the answer for another host: there is none exactly where no neighbour has a cost
abbrev pub IsRouteAnswer : Routing → Host → Option RouteRow → Type 0
IsRouteAnswer r x None = (link : Host × Dev) → Contains r.neighbours link → near_cost r x link ≡ None
IsRouteAnswer r x (Some row) = IsRoute r x row

-- the route to x leads to this host over this device
pub record LeadsBy (r : Routing) (x m : Host) (d : Dev) : Type 0 where
  pub row : RouteRow
  pub by : route r x ≡ Some row
  pub to : row.«next» ≡ m
  pub over : row.dev ≡ d

-- the node and its neighbours are hosts of the network
pub record HostsHold (r : Routing) : Type 0 where
  pub here : is_among r.hosts r.here ≡ true
  pub near : (link : Host × Dev) → Contains r.neighbours link → is_among r.hosts link.0 ≡ true
