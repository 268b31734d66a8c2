-- What holds of routes in every network without forged frames.
use Rattle.std.specs.Prelude.{◌≡◌, ◌≢◌, ℕ, ◌<◌, Option, Some, List, [], slice_get, Contains, All}
use Rattle.plan_base.specs.declared.ids.Host.{Host}
use Rattle.plan_base.specs.declared.ids.Dev.{Dev}
use Rattle.service_api.specs.declared.router.RouteRow.{RouteRow}
use Rattle.service_api.specs.declared.advert.AdvertRow.{AdvertRow}
use Rattle.service_api.specs.declared.advert.Advert.{Advert}
use Rattle.dv_routing.specs.Routing.{Routing, route}
use Rattle.dv_routing.specs.Laws.{AtMost, NoRise}
use Rattle.net_world_spec.specs.Network.{Wiring, RouteFrame, Parcel, Told, Node, Network, routings, routing_at, cost_at}

abbrev pub IsKnown : Option ℕ → Type 0
IsKnown o = (c : ℕ) × (o ≡ Some c)

-- no host's cost is higher at any node
abbrev pub NoneRises : List Routing → List Routing → Type 0
NoneRises old new = (n x : Host) → NoRise (cost_at old n x) (cost_at new n x)

-- what a row gives is no less than what its sender knows now
abbrev pub RowTrue : List Routing → Host → AdvertRow → Type 0
RowTrue nodes m row = AtMost (cost_at nodes m row.host) row.cost

abbrev pub AdvertTrue : List Routing → Advert → Type 0
AdvertTrue nodes a = All (RowTrue nodes a.host) a.rows

-- a neighbour knows itself, and all that was heard of it is true
pub record LinkTrue (nodes : List Routing) (heard : List (Dev × Advert)) (link : Host × Dev) : Type 0 where
  pub own : AtMost (cost_at nodes link.0 link.0) 0
  pub told : All (λ told. told.0.0 ≡ link.1.0 → All (RowTrue nodes link.0) told.1.rows) heard

-- neighbours are at the other ends of devices, and device 0 leads to the node itself
pub record IsLinked (far : Wiring) (r : Routing) : Type 0 where
  pub own : far r.here (record { 0 = 0 }) ≡ Some (r.here, record { 0 = 0 })
  pub near : (m : Host) (d : Dev) → Contains r.neighbours (m, d) → (e : Dev) × (far r.here d ≡ Some (m, e))
  pub real : (m : Host) (d : Dev) → Contains r.neighbours (m, d) → d.0 ≢ 0

-- a packet that goes to a node has a cost there; an advert is true
abbrev pub FrameTrue : List Routing → Host → RouteFrame → Type 0
FrameTrue nodes m (Parcel x) = IsKnown (cost_at nodes m x)
FrameTrue nodes m (Told a) = AdvertTrue nodes a

-- frames are true for the node to which their device leads
abbrev pub QueuesTrue : Wiring → List Routing → Host → List (List RouteFrame) → Type 0
QueuesTrue far nodes n queues =
    (d : Dev) (queue : List RouteFrame) (end : Host × Dev) → slice_get queues d.0 ≡ Some queue → far n d
    ≡ Some end → All (FrameTrue nodes end.0) queue

pub record NodeHolds (far : Wiring) (nodes : List Routing) (node : Node) : Type 0 where
  pub linked : IsLinked far node.routing
  pub heard : (link : Host × Dev) → Contains node.routing.neighbours link → LinkTrue nodes node.routing.heard link
  pub queues : QueuesTrue far nodes node.routing.here node.queues

-- what holds of routes
pub record RoutesHold (far : Wiring) (w : Network) : Type 0 where
  pub nodes : All (NodeHolds far (routings w)) w.nodes
  pub wire : All (λ x. FrameTrue (routings w) x.0.0 x.1) w.wire

-- a node that has heard nothing and has nothing queued, whose neighbours are there
pub record IsFresh (far : Wiring) (nodes : List Routing) (node : Node) : Type 0 where
  pub linked : IsLinked far node.routing
  pub there : (link : Host × Dev) → Contains node.routing.neighbours link → (r : Routing) × (routing_at nodes link.0 ≡ Some r)
  pub heard : node.routing.heard ≡ []
  pub queues : All (λ queue. queue ≡ []) node.queues

-- a network in which nothing has happened
pub record IsOpening (far : Wiring) (w : Network) : Type 0 where
  pub nodes : All (IsFresh far (routings w)) w.nodes
  pub wire : w.wire ≡ []

-- the node of a host routes to another host by this row
pub record IsHop (w : Network) (x n : Host) (row : RouteRow) : Type 0 where
  pub routing : Routing
  pub here : routing_at (routings w) n ≡ Some routing
  pub other : routing.here ≢ x
  pub by : route routing x ≡ Some row

-- the next node's cost is lower
abbrev pub Falls : List Routing → Host → RouteRow → Type 0
Falls nodes x row = (c : ℕ) × (cost_at nodes row.«next» x ≡ Some c) × (c < row.cost)
