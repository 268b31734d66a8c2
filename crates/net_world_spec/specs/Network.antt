-- A network as far as routes go: what nodes have heard, and which frames are on their way.
use Rattle.std.specs.Prelude.{◌≡◌, ℕ, Bool, ◌==◌, if◌then◌else◌, Option, Some, None, List, [], ◌∷◌, ◌++◌, map, slice_get, slice_set, remove, Contains}
use Rattle.plan_base.specs.declared.ids.Host.{Host}
use Rattle.plan_base.specs.declared.ids.Dev.{Dev}
use Rattle.service_api.specs.declared.router.RouteRow.{RouteRow}
use Rattle.service_api.specs.declared.advert.Advert.{Advert}
use Rattle.dv_routing.specs.Routing.{Routing, hears, route, own_advert, cost}

-- where each device of each host leads: to a device of a host
abbrev pub Wiring : Type 0
Wiring = Host → Dev → Option (Host × Dev)

-- a frame is a packet for a host, or an advert
pub data RouteFrame : Type 0 where
  Parcel : Host → RouteFrame
  Told : Advert → RouteFrame

-- a node: what it knows of routes, and the frames queued on each device
pub record Node : Type 0 where
  pub routing : Routing
  pub queues : List (List RouteFrame)

-- a network: its nodes, and the frames on the wire, each with the end that is to receive it
pub record Network : Type 0 where
  pub nodes : List Node
  pub wire : List ((Host × Dev) × RouteFrame)

abbrev pub routing_of : Node → Routing
routing_of node = node.routing

abbrev pub routings : Network → List Routing
routings w = map routing_of w.nodes

-- what the first node of a host knows
abbrev pub routing_at : List Routing → Host → Option Routing
routing_at [] n = None
routing_at (r ∷ rs) n = if r.here.0 == n.0 then Some r else routing_at rs n

abbrev pub cost_by : Host → Option Routing → Option ℕ
cost_by x None = None
cost_by x (Some r) = cost r x

-- the cost of a host at a node
unfoldable pub cost_at : List Routing → Host → Host → Option ℕ
cost_at nodes n x = cost_by x (routing_at nodes n)

-- whether a node is of this host
abbrev pub is_of : Host → Node → Bool
is_of h node = node.routing.here.0 == h.0

-- the node at a place, where it is the first of its host
pub record IsAt (w : Network) (at : ℕ) (node : Node) : Type 0 where
  pub place : slice_get w.nodes at ≡ Some node
  pub first : routing_at (routings w) node.routing.here ≡ Some node.routing

abbrev pub with_node : Network → ℕ → Node → Network
with_node w at node = record { nodes = slice_set w.nodes at node; wire = w.wire }

abbrev pub with_queue : Node → Dev → List RouteFrame → Node
with_queue node d queue = record { routing = node.routing; queues = slice_set node.queues d.0 queue }

-- with a frame more on a device
abbrev pub queued_frame : Node → Dev → List RouteFrame → RouteFrame → Node
queued_frame node d queue frame = with_queue node d (queue ++ frame ∷ [])

abbrev pub heard_by : Node → Dev → Advert → Node
heard_by node d a = record { routing = hears node.routing d a; queues = node.queues }

-- What can happen, one thing after the other. A packet is queued by the node's route to its host, or for a neighbour; an advert is
-- queued for a neighbour; the first frame of a queue goes onto the wire; an advert on the wire is heard, where it is the
-- neighbour's; a frame leaves the wire.
pub data Moves (far : Wiring) : Network → Network → Type 0 where
  Routed : (w : Network) (at : ℕ) (node : Node) (x : Host) (row : RouteRow) (queue : List RouteFrame) → IsAt w at node → route node.routing x ≡ Some row
      → slice_get node.queues row.dev.0 ≡ Some queue → Moves far w (with_node w at (queued_frame node row.dev queue (Parcel x)))
  Handed : (w : Network) (at : ℕ) (node : Node) (m : Host) (d : Dev) (queue : List RouteFrame) → IsAt w at node → Contains node.routing.neighbours (m, d)
      → slice_get node.queues d.0 ≡ Some queue → Moves far w (with_node w at (queued_frame node d queue (Parcel m)))
  Tells : (w : Network) (at : ℕ) (node : Node) (m : Host) (d : Dev) (queue : List RouteFrame) → IsAt w at node → Contains node.routing.neighbours (m, d)
      → slice_get node.queues d.0 ≡ Some queue → Moves far w (with_node w at (queued_frame node d queue (Told (own_advert node.routing))))
  Sent : (w : Network) (at : ℕ) (node : Node) (d : Dev) (frame : RouteFrame) (queue : List RouteFrame) (end : Host × Dev) → IsAt w at node
      → slice_get node.queues d.0 ≡ Some (frame ∷ queue) → far node.routing.here d ≡ Some end
      → Moves far w (record { nodes = slice_set w.nodes at (with_queue node d queue); wire = w.wire ++ (end, frame) ∷ [] })
  Hears : (w : Network) (at : ℕ) (node : Node) (d : Dev) (a : Advert) → IsAt w at node → Contains w.wire ((node.routing.here, d), Told a)
      → Contains node.routing.neighbours (a.host, d) → Moves far w (with_node w at (heard_by node d a))
  Leaves : (w : Network) (place : ℕ) → Moves far w (record { nodes = w.nodes; wire = remove w.wire place })

-- any number of moves
pub data Goes (far : Wiring) : Network → Network → Type 0 where
  Stays : (w : Network) → Goes far w w
  Then : (u v w : Network) → Moves far u v → Goes far v w → Goes far u w
