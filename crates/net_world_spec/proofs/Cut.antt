-- A network cut down to what routes need.
use Rattle.std.proofs.Common.{◌≡◌, ℕ, zero, suc, ◌<◌, true, false, cond, Option, Some, None, List, [], ◌∷◌, length, get_or, refl, sym, ap, ◌∙◌, arith}
use Rattle.std.specs.Prelude.{map, slice_get, slice_set, remove, Contains}
use Rattle.std.proofs.lemmas.List.{set-set}
use Rattle.std.proofs.lemmas.List.Quantifiers.{position-Some}
use Rattle.std.proofs.lemmas.Option.{slice_get_within, get_or_from_slice_get}
use Rattle.plan_base.specs.declared.ids.Host.{Host}
use Rattle.plan_base.specs.declared.ids.Dev.{Dev}
use Rattle.packet_frame.specs.declared.frame.PlainFrame.{PlainFrame}
use Rattle.packet_frame.specs.declared.frame.PlainStamped.{PlainStamped}
use Rattle.dv_routing.specs.Routing.{Routing, route_cost}
use Rattle.dv_routing.proofs.Costs.{same_host}
use Rattle.net_world_spec.specs.Network.{Wiring, RouteFrame, Parcel, Told, Node, Network, routing_of as of_node, routings, routing_at, cost_by, cost_at as cut_cost, IsAt, with_node, Goes, Stays, Then}
use Rattle.net_world_spec.proofs.Lookups.{routings_set, routings_get}
use Rattle.node_core_spec.specs.declared.acts.TxQueue.{TxQueue}
use Rattle.node_core_spec.specs.State.{Queues, NodeState, routing_of, is_host}
use Rattle.net_world_spec.specs.declared.lines.LinkEnd.{LinkEnd}
use Rattle.net_world_spec.specs.declared.lines.FrameOnWire.{FrameOnWire}
use Rattle.net_world_spec.specs.World.{Cables, WorldState, place_of, far_end}
use Rattle.net_world_spec.specs.Roads.{routing_in, route_by, route_at, cost_at}

-- a packet for a host, or an advert; no ask is ever on its way, and an advert without rows stands for it
abbrev pub cut_frame : PlainFrame → RouteFrame
cut_frame (PlainFrame.Packet p) = Parcel p.dest
cut_frame (PlainFrame.Advert a) = Told a
cut_frame (PlainFrame.Ask bound chunk) = Told (record { host = record { 0 = 0 }; rows = [] })

-- stamps lead nowhere
abbrev pub cut_stamped : PlainStamped → RouteFrame
cut_stamped x = cut_frame x.frame

abbrev pub cut_lane : TxQueue → List RouteFrame
cut_lane lane = map cut_stamped lane.frames

abbrev pub cut_queues : Queues → List (List RouteFrame)
cut_queues queues = map cut_lane queues

-- a node by its routing and queues
abbrev pub node_with : Routing → Queues → Node
node_with r queues = record { routing = r; queues = cut_queues queues }

abbrev pub cut_node : NodeState → Node
cut_node node = node_with (routing_of node) node.queues

abbrev pub cut_wired : FrameOnWire → (Host × Dev) × RouteFrame
cut_wired x = ((x.to.host, x.to.dev), cut_stamped x.frame)

abbrev pub cut : WorldState → Network
cut w = record { nodes = map cut_node w.nodes; wire = map cut_wired w.wire }

abbrev pub end_of : Option LinkEnd → Option (Host × Dev)
end_of None = None
end_of (Some e) = Some (e.host, e.dev)

abbrev pub wiring : Cables → Wiring
wiring links h d = end_of (far_end links h d)

-- ---- lists

pub get_map : {X Y : Type 0} (f : X → Y) (xs : List X) (i : ℕ) (x : X) → slice_get xs i ≡ Some x → slice_get (map f xs) i ≡ Some (f x)
get_map {X = X} f [] i x e = absurd (none e)
  where
    none : ◌≡◌ {A = Option X} None (Some x) → ⊥
    none h = cc
get_map f (y ∷ ys) zero x e = let is : y ≡ x = cc in ap (λ z. Some (f z)) is
get_map f (y ∷ ys) (suc i) x e = get_map f ys i x e

pub get_same : {X : Type 0} (xs : List X) (i : ℕ) (x y : X) → slice_get xs i ≡ Some x → slice_get (slice_set xs i y) i ≡ Some y
get_same {X = X} [] i x y e = absurd (none e)
  where
    none : ◌≡◌ {A = Option X} None (Some x) → ⊥
    none h = cc
get_same (z ∷ zs) zero x y e = refl
get_same (z ∷ zs) (suc i) x y e = get_same zs i x y e

pub set_same : {X : Type 0} (xs : List X) (i : ℕ) (x : X) → slice_get xs i ≡ Some x → slice_set xs i x ≡ xs
set_same [] i x e = refl
set_same (z ∷ zs) zero x e = let is : z ≡ x = cc in ap (λ y. y ∷ zs) (sym is)
set_same (z ∷ zs) (suc i) x e = ap (λ ys. z ∷ ys) (set_same zs i x e)

pub map_remove : {X Y : Type 0} (f : X → Y) (xs : List X) (i : ℕ) → map f (remove xs i) ≡ remove (map f xs) i
map_remove f [] zero = refl
map_remove f [] (suc i) = refl
map_remove f (x ∷ xs) zero = refl
map_remove f (x ∷ xs) (suc i) = ap (λ ys. f x ∷ ys) (map_remove f xs i)

pub contains_get : {X : Type 0} (xs : List X) (i : ℕ) (x : X) → slice_get xs i ≡ Some x → Contains xs x
contains_get xs i x e = (i, slice_get_within xs i x e, get_or_from_slice_get xs i x x e)

-- ---- nodes at their places

pub same_net : (w : Network) (at : ℕ) (node : Node) → IsAt w at node → with_node w at node ≡ w
same_net w at node p = ap (λ ns. let v : Network = record { nodes = ns; wire = w.wire } in v) (set_same w.nodes at node p.place)

pub with_with : (w : Network) (at : ℕ) (a b : Node) → with_node (with_node w at a) at b ≡ with_node w at b
with_with w at a b = ap (λ ns. let v : Network = record { nodes = ns; wire = w.wire } in v) (set-set w.nodes at a b)

-- a node that knows the same stays the one of its host
pub at_after : (w : Network) (at : ℕ) (node new : Node) → IsAt w at node → new.routing ≡ node.routing → IsAt (with_node w at new) at new
at_after w at node new p same =
    let rs = routings_set w at new ∙ (ap (slice_set (routings w) at) same ∙ set_same (routings w) at node.routing (routings_get w.nodes at node p.place)) in
    record {
      place = get_same w.nodes at node new p.place;
      first = ap (λ ns. routing_at ns new.routing.here) rs ∙ (ap (λ r. routing_at (routings w) r.here) same ∙ (p.first ∙ ap (λ r. Some r) (sym same)));
    }

pub goes_over : (far : Wiring) (u v w : Network) → Goes far u v → Goes far v w → Goes far u w
goes_over far u v w (Stays a) k = k
goes_over far u v w (Then a b c m rest) k = Then a b w m (goes_over far b c w rest k)

-- ---- what nodes know

pub same_routing : (nodes : List NodeState) (n : Host) → routing_in nodes n ≡ routing_at (map of_node (map cut_node nodes)) n
same_routing [] n = refl
same_routing (node ∷ nodes) n = ap (cond (is_host node.here n) (Some (routing_of node))) (same_routing nodes n)

by_cost : (x : Host) (o : Option Routing) → route_cost (route_by x o) ≡ cost_by x o
by_cost x None = refl
by_cost x (Some r) = refl

pub same_cost : (w : WorldState) (n x : Host) → cost_at w.nodes n x ≡ cut_cost (routings (cut w)) n x
unfolding cost_at route_at cut_cost
same_cost w n x = by_cost x (routing_in w.nodes n) ∙ ap (cost_by x) (same_routing w.nodes n)

first_known : (nodes : List NodeState) (h : Host) (at : ℕ) (d : NodeState) → at < length nodes → is_host (get_or nodes at d).here h ≡ true
    → ((k : ℕ) → k < at → is_host (get_or nodes k d).here h ≡ false) → routing_in nodes h ≡ Some (routing_of (get_or nodes at d))
first_known [] h at d within here before = absurd (omega arith)
first_known (m ∷ nodes) h zero d within here before = ap (λ t. cond t (Some (routing_of m)) (routing_in nodes h)) here
first_known (m ∷ nodes) h (suc at) d within here before =
    let low : 0 < suc at = omega arith in
    ap (λ t. cond t (Some (routing_of m)) (routing_in nodes h)) (before 0 low)
    ∙ first_known nodes h at d (omega arith) here (λ k below. before (suc k) (omega arith))

-- the node at the place of a host
pub record PlaceOf (w : WorldState) (h : Host) (at : ℕ) (node : NodeState) : Type 0 where
  pub here : node.here ≡ h
  pub known : routing_in w.nodes h ≡ Some (routing_of node)
  pub is_at : IsAt (cut w) at (cut_node node)

pub place_is : (w : WorldState) (h : Host) (at : ℕ) (node : NodeState) → place_of w.nodes h ≡ Some at → slice_get w.nodes at ≡ Some node → PlaceOf w h at node
place_is w h at node place get =
    let p = position-Some (λ n. is_host n.here h) w.nodes at node place in
    let is : get_or w.nodes at node ≡ node = get_or_from_slice_get w.nodes at node node get in
    let here : node.here ≡ h = same_host node.here h (sym (ap (λ n. is_host n.here h) is) ∙ p.1) in
    let known : routing_in w.nodes h ≡ Some (routing_of node) = first_known w.nodes h at node p.0 p.1 p.2 ∙ ap (λ n. Some (routing_of n)) is in
    record {
      here = here;
      known = known;
      is_at = record { place = get_map cut_node w.nodes at node get; first = sym (same_routing w.nodes node.here) ∙ (ap (routing_in w.nodes) here ∙ known) };
    }
