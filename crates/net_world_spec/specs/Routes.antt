-- What holds of routes in every network that no packet and no advert came to from outside.
use Rattle.std.specs.Prelude.{◌≡◌, ℕ, ◌<◌, ◌≤◌, List, take, Some, All}
use Rattle.plan_base.specs.declared.ids.Host.{Host}
use Rattle.plan_base.specs.declared.ids.Dev.{Dev}
use Rattle.plan_base.specs.declared.tree.Packet.{Packet}
use Rattle.packet_frame.specs.declared.frame.PlainFrame.{PlainFrame}
use Rattle.service_api.specs.declared.router.RouteRow.{RouteRow}
use Rattle.service_api.specs.declared.router.Hop.TheVariants.{To}
use Rattle.service_api.specs.Routes.{hop}
use Rattle.network_config.specs.Rules.{KeepsNetwork}
use Rattle.network_config.specs.declared.schedule.Topology.{Topology}
use Rattle.network_config.specs.declared.event.WorldEvent.{WorldEvent}
use Rattle.dv_routing.specs.Routing.{Routing, route, all_routes}
use Rattle.dv_routing.specs.Laws.{NoRise}
use Rattle.node_core_spec.specs.declared.acts.Act.{Act}
use Rattle.node_core_spec.specs.declared.acts.Act.TheVariants.{Dropped}
use Rattle.node_core_spec.specs.declared.acts.Reason.TheVariants as reason
use Rattle.node_core_spec.specs.State.{NodeState}
use Rattle.net_world_spec.specs.declared.lines.Line.{Line}
use Rattle.net_world_spec.specs.declared.lines.Line.TheVariants.{At}
use Rattle.net_world_spec.specs.World.{WorldState, EventResult, peer_of, far_end, opening, world_after, history_of}
use Rattle.net_world_spec.specs.Roads.{routing_in, route_at, cost_at, IsReached, BringsNone, IsHop, HopsOver, Journey}

-- a network that came about from a beginning within the rules, by events that bring no packet and no advert from outside
pub record Reached (w : WorldState) : Type 0 where
  pub topology : Topology
  pub keeps : KeepsNetwork topology
  pub events : List WorldEvent
  pub inside : All (BringsNone topology.version) events
  pub is : w ≡ world_after events (opening topology)

-- ---- what holds

-- a route leads over a link to a host whose own cost is lower
pub record LeadsDown (w : WorldState) (x n : Host) (row : RouteRow) : Type 0 where
  pub end : Dev
  pub link : peer_of w.links n row.dev ≡ Some (record { host = row.«next»; dev = end })
  pub cost : ℕ
  pub there : cost_at w.nodes row.«next» x ≡ Some cost
  pub lower : cost < row.cost

-- at the node of m there is a route to the packet's host, and the packet's next hop is that of this route
pub record HasWay (nodes : List NodeState) (m : Host) (p : Packet) : Type 0 where
  pub routing : Routing
  pub here : routing_in nodes m ≡ Some routing
  pub row : RouteRow
  pub by : route routing p.dest ≡ Some row
  pub hops : hop (all_routes routing) p.route m p.dest ≡ To row.«next» row.dev

abbrev pub FrameHasWay : List NodeState → Host → PlainFrame → Type 0
FrameHasWay nodes m (PlainFrame.Packet p) = HasWay nodes m p
FrameHasWay nodes m _ = Unit {0}

-- what holds of routes: behind each cost is a walk that is no longer; each route to another host leads to a host whose cost is lower,
-- and that to the node itself over device 0; each packet on the wire has a route where it is to arrive; a packet to another host is
-- queued at most as often as the cost says that its sender has, a last queueing counted that is never sent, whatever happens
-- meanwhile that brings nothing from outside; and one to the own host is queued on device 0, which leads to that host
pub record RoutesHold (w : WorldState) : Type 0 where
  pub reach : (n x : Host) (c : ℕ) → cost_at w.nodes n x ≡ Some c → IsReached w.links n x c
  pub fall : (n x : Host) (row : RouteRow) → IsHop w x n row → LeadsDown w x n row
  pub home : (n : Host) (row : RouteRow) → route_at w.nodes n n ≡ Some row → (row.dev.0 ≡ 0) × (row.cost ≡ 0)
  pub wire : All (λ x. FrameHasWay w.nodes x.to.host x.frame.frame) w.wire
  pub short : (n x : Host) (k c : ℕ) → cost_at w.nodes n x ≡ Some c → Journey x w n k → k ≤ c
  pub own : (n : Host) (d : Dev) → HopsOver w n n d → (d.0 ≡ 0) × (far_end w.links n d ≡ Some (record { host = n; dev = d }))

-- no host's cost is higher at any node
abbrev pub NoneRises : List NodeState → List NodeState → Type 0
NoneRises old new = (n x : Host) → NoRise (cost_at old n x) (cost_at new n x)

-- no packet is dropped for want of a route or of its routing function
abbrev pub IsRoutedAct : Act → Type 0
IsRoutedAct (Dropped reason.NoRoute f bound) = ⊥
IsRoutedAct (Dropped reason.NoService f bound) = ⊥
IsRoutedAct _ = Unit {0}

abbrev pub IsRouted : Line → Type 0
IsRouted (At h act) = IsRoutedAct act
IsRouted _ = Unit {0}

-- ---- events and runs

-- an event keeps what holds of routes, raises no cost, and drops no packet for want of a route
pub record KeepsRoutes (w : WorldState) (h : EventResult) : Type 0 where
  pub holds : RoutesHold h.world
  pub rises : NoneRises w.nodes h.world.nodes
  pub routed : All IsRouted h.lines

-- the same for a run, after each of its events
pub record RunKeepsRoutes (es : List WorldEvent) (w : WorldState) : Type 0 where
  pub holds : (k : ℕ) → RoutesHold (world_after (take k es) w)
  pub rises : (k : ℕ) → NoneRises (world_after (take k es) w).nodes (world_after es w).nodes
  pub routed : All (λ e. IsRouted e.line) (history_of es w)
