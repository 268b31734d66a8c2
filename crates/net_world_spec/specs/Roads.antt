-- Routes and costs at the nodes of a network, walks along its links, and the ways that packets go by default routes.
use Rattle.std.specs.Prelude.{◌≡◌, ◌≢◌, ℕ, zero, suc, ◌≤◌, if◌then◌else◌, List, [], ◌∷◌, Option, Some, None, Result, Ok, Err, All, Contains}
use Rattle.plan_base.specs.declared.ids.Host.{Host}
use Rattle.plan_base.specs.declared.ids.Dev.{Dev}
use Rattle.plan_base.specs.declared.stamp.Version.{Version}
use Rattle.packet_frame.specs.declared.frame.PlainFrame.{PlainFrame}
use Rattle.packet_frame.specs.declared.frame.PlainStamped.{PlainStamped}
use Rattle.packet_frame.specs.declared.fault.FrameFault.{FrameFault}
use Rattle.packet_frame.specs.Decoding.{read_by}
use Rattle.service_api.specs.declared.router.RouteRow.{RouteRow}
use Rattle.service_api.specs.declared.router.Hop.TheVariants.{To}
use Rattle.service_api.specs.Routes.{hop, default_route}
use Rattle.network_config.specs.declared.event.WorldEvent.{WorldEvent}
use Rattle.network_config.specs.declared.event.WorldEvent.TheVariants.{Raw}
use Rattle.dv_routing.specs.Routing.{Routing, route, route_cost, all_routes}
use Rattle.node_core_spec.specs.State.{NodeState, is_host, routing_of}
use Rattle.net_world_spec.specs.declared.lines.LinkEnd.{LinkEnd}
use Rattle.net_world_spec.specs.declared.lines.FrameOnWire.{FrameOnWire}
use Rattle.net_world_spec.specs.World.{Cables, WorldState, peer_of, world_after}

-- ---- costs

-- what the node of a host knows of routes
abbrev pub routing_in : List NodeState → Host → Option Routing
routing_in [] n = None
routing_in (node ∷ nodes) n = if is_host node.here n then Some (routing_of node) else routing_in nodes n

abbrev pub route_by : Host → Option Routing → Option RouteRow
route_by x None = None
route_by x (Some r) = route r x

-- the route to x at the node of n
unfoldable pub route_at : List NodeState → Host → Host → Option RouteRow
route_at nodes n x = route_by x (routing_in nodes n)

-- the cost of x at the node of n
unfoldable pub cost_at : List NodeState → Host → Host → Option ℕ
cost_at nodes n x = route_cost (route_at nodes n x)

-- ---- walks

-- a walk along links to b, with the number of its links
pub data CableWalk (links : Cables) (b : Host) : Host → ℕ → Type 0 where
  Here : CableWalk links b b zero
  Along : (a : Host) (d : Dev) (far : LinkEnd) (k : ℕ) → peer_of links a d ≡ Some far → CableWalk links b far.host k → CableWalk links b a (suc k)

-- there is a walk of at most this length
abbrev pub IsReached : Cables → Host → Host → ℕ → Type 0
IsReached links a b n = (k : ℕ) × (k ≤ n) × CableWalk links b a k

-- the length of a shortest walk
abbrev pub IsDist : Cables → Host → Host → ℕ → Type 0
IsDist links a b n = CableWalk links b a n × ((k : ℕ) → CableWalk links b a k → n ≤ k)

-- ---- ways

-- an ask, which no node takes on a device
abbrev pub IsAsk : PlainFrame → Type 0
IsAsk (PlainFrame.Ask bound chunk) = Unit {0}
IsAsk _ = ⊥

-- bytes that are no frame, or an ask
abbrev pub CarriesNone : Result PlainStamped FrameFault → Type 0
CarriesNone (Ok x) = IsAsk x.frame
CarriesNone (Err e) = Unit {0}

-- an event that brings no packet and no advert from outside into a network of this version
abbrev pub BringsNone : Version → WorldEvent → Type 0
BringsNone v (Raw h d bytes) = CarriesNone (read_by v bytes)
BringsNone v _ = Unit {0}

-- the node of n, which isn't x's, routes to x by this row
pub record IsHop (w : WorldState) (x n : Host) (row : RouteRow) : Type 0 where
  pub other : n ≢ x
  pub by : route_at w.nodes n x ≡ Some row

-- a way towards x by default routes, with the number of its hops: at each hop a packet for x is queued for the next host of the
-- route that its node has by then, and any events may lie between that and its arrival there
pub data WorldWay (x : Host) : WorldState → Host → ℕ → Type 0 where
  Ends : (w : WorldState) (n : Host) → WorldWay x w n zero
  Hops : (w : WorldState) (es : List WorldEvent) (n : Host) (row : RouteRow) (k : ℕ) → IsHop w x n row → All (BringsNone w.version) es
      → WorldWay x (world_after es w) row.«next» k → WorldWay x w n (suc k)

-- ---- journeys

-- the next hop for x at the node of n is over this device
pub record HopsOver (w : WorldState) (x n : Host) (d : Dev) : Type 0 where
  pub routing : Routing
  pub here : routing_in w.nodes n ≡ Some routing
  pub to : Host
  pub by : hop (all_routes routing) default_route n x ≡ To to d

abbrev pub IsPacketFor : Host → PlainFrame → Type 0
IsPacketFor x (PlainFrame.Packet p) = p.dest ≡ x
IsPacketFor x _ = ⊥

-- a journey of packets for x, with the number of times that they are queued: at each time the node of n, which isn't x's, has its
-- next hop for x over a device, some events later a frame that was sent over that device is on the wire with a packet for x, and the
-- journey goes on where that frame is to arrive; or the packet waits in that queue, and is never sent
pub data Journey (x : Host) : WorldState → Host → ℕ → Type 0 where
  Rests : (w : WorldState) (n : Host) → Journey x w n zero
  Waits : (w : WorldState) (n : Host) (d : Dev) → n ≢ x → HopsOver w x n d → Journey x w n (suc zero)
  Rides : (w : WorldState) (es : List WorldEvent) (n : Host) (y : FrameOnWire) (k : ℕ) → n ≢ x → HopsOver w x n y.from.dev → y.from.host ≡ n
      → IsPacketFor x y.frame.frame → All (BringsNone w.version) es
      → Contains (world_after es w).wire y → Journey x (world_after es w) y.to.host k → Journey x w n (suc k)
