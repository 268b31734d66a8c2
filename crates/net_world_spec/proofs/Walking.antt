-- Walks behind costs, the ways of packets, and the opening.
use Rattle.std.proofs.Common.{◌≡◌, ◌≢◌, ℕ, zero, suc, ◌≤◌, ◌<◌, Option, Some, None, [], inl, inr, refl, sym, ap, subst, ◌∙◌, arith}
use Rattle.std.specs.List.{All, Contains}
use Rattle.std.proofs.lemmas.List.Elements.{All-weaker, All-nil, All-same, All-contains}
use Rattle.plan_base.specs.declared.ids.Host.{Host}
use Rattle.plan_base.specs.declared.ids.Dev.{Dev}
use Rattle.service_api.specs.declared.router.RouteRow.{RouteRow}
use Rattle.service_api.specs.declared.advert.Advert.{Advert}
use Rattle.dv_routing.specs.Routing.{Routing, cost, route, route_cost, own_route}
use Rattle.dv_routing.specs.Laws.{AtMost}
use Rattle.dv_routing.proofs.Best.{route_own, same_or_not}
use Rattle.dv_routing.proofs.Rises.{at_most_some, no_rise_at}
use Rattle.net_world_spec.specs.Network.{Wiring, Parcel, Node, Network, routings, routing_at, cost_at}
use Rattle.net_world_spec.specs.Truths.{IsKnown, RowTrue, FrameTrue, NodeHolds, RoutesHold, IsFresh, IsOpening, IsHop, Falls}
use Rattle.net_world_spec.specs.Walks.{LinkWalk, Here, Along, IsReached, IsDist, RouteWay, Ends, Hops}
use Rattle.net_world_spec.proofs.Lookups.{all_get, Found, routing_found, cost_found, CostOf, cost_of}
use Rattle.net_world_spec.proofs.Truth.{falls, leads, real_route}
use Rattle.net_world_spec.proofs.Keep.{goes_keep, goes_rise}

at_host : (far : Wiring) (w : Network) (n : Host) (r : Routing) → RoutesHold far w → routing_at (routings w) n ≡ Some r → Found (NodeHolds far (routings w)) n r
at_host far w n r h e = routing_found (NodeHolds far (routings w)) w.nodes n r h.nodes e

pub hop_falls : (far : Wiring) (w : Network) (x n : Host) (row : RouteRow) → RoutesHold far w → IsHop w x n row → Falls (routings w) x row
hop_falls far w x n row h hop =
    let f = at_host far w n hop.routing h hop.here in
    falls far (routings w) f.node x row f.holds (λ same. hop.other (ap (λ r. r.here) (sym f.is) ∙ same)) (ap (λ r. route r x) f.is ∙ hop.by)

-- the device of a hop leads to the next node over a link
pub record Leads (far : Wiring) (n : Host) (row : RouteRow) : Type 0 where
  pub end : Dev
  pub leads : far n row.dev ≡ Some (row.«next», end)
  pub real : row.dev.0 ≢ 0

pub hop_leads : (far : Wiring) (w : Network) (x n : Host) (row : RouteRow) → RoutesHold far w → IsHop w x n row → Leads far n row
hop_leads far w x n row h hop =
    let f = at_host far w n hop.routing h hop.here in
    let other : f.node.routing.here ≢ x = λ same. hop.other (ap (λ r. r.here) (sym f.is) ∙ same) in
    let by : route f.node.routing x ≡ Some row = ap (λ r. route r x) f.is ∙ hop.by in
    let l = leads far (routings w) f.node x row f.holds other by in
    let here : f.node.routing.here ≡ n = ap (λ r. r.here) f.is ∙ f.here in
    record { end = l.0; leads = ap (λ m. far m row.dev) (sym here) ∙ l.1; real = real_route far (routings w) f.node x row f.holds other by }

-- the row of a cost
record RowOf (r : Routing) (x : Host) (c : ℕ) : Type 0 where
  row : RouteRow
  by : route r x ≡ Some row
  is : row.cost ≡ c

row_of : (r : Routing) (x : Host) (c : ℕ) → cost r x ≡ Some c → RowOf r x c
row_of r x c e = split (route r x) refl e
  where
    none : ◌≡◌ {A = Option ℕ} None (Some c) → ⊥
    none h = cc

    split : (o : Option RouteRow) → route r x ≡ o → route_cost o ≡ Some c → RowOf r x c
    split None h k = absurd (none k)
    split (Some row) h k = record { row = row; by = h; is = cc }

-- a walk behind every cost, where there is one behind every lower cost
abbrev Nearer : Wiring → Network → Host → ℕ → Type 0
Nearer far w x c = (m : Host) (b : ℕ) → b < c → cost_at (routings w) m x ≡ Some b → IsReached far m x b

step_reaches : (far : Wiring) (w : Network) (n x : Host) (c : ℕ) → RoutesHold far w → Nearer far w x c → cost_at (routings w) n x ≡ Some c → IsReached far n x c
step_reaches far w n x c h nearer e =
    let k = cost_of (routings w) n x c e in
    let here : k.routing.here ≡ n = (at_host far w n k.routing h k.at).here in
    elim (same_or_not k.routing.here x) [ inl same ↦ stay (sym here ∙ same) | inr other ↦ over k other ]
  where
    stay : n ≡ x → IsReached far n x c
    stay same = let P : Host → Type 0 = λ m. LinkWalk far x m zero in (zero, omega arith, subst P (sym same) Here)

    over : (k : CostOf (routings w) n x c) → k.routing.here ≢ x → IsReached far n x c
    over k other =
        let r = row_of k.routing x c k.is in
        let hop : IsHop w x n r.row = record { routing = k.routing; here = k.at; other = other; by = r.by } in
        let f = hop_falls far w x n r.row h hop in
        let l = hop_leads far w x n r.row h hop in
        let cost_is : r.row.cost ≡ c = r.is in
        let less : f.0 < r.row.cost = f.2 in
        let rest = nearer r.row.«next» f.0 (omega arith) f.1 in
        let short : rest.0 ≤ f.0 = rest.1 in
        (suc rest.0, omega arith, Along n r.row.dev r.row.«next» l.end rest.0 l.real l.leads rest.2)

below_reaches : (far : Wiring) (w : Network) (x : Host) → RoutesHold far w → (limit : ℕ) → Nearer far w x limit
below_reaches far w x h zero m b less e = absurd (omega arith)
below_reaches far w x h (suc limit) m b less e =
    step_reaches far w m x b h (λ n a small k. below_reaches far w x h limit n a (omega arith) k) e

pub cost_reaches : (far : Wiring) (w : Network) (n x : Host) (c : ℕ) → RoutesHold far w → cost_at (routings w) n x ≡ Some c → IsReached far n x c
cost_reaches far w n x c h e = step_reaches far w n x c h (below_reaches far w x h c) e

pub dist_within : (far : Wiring) (w : Network) (n x : Host) (c d : ℕ) → RoutesHold far w → cost_at (routings w) n x ≡ Some c → IsDist far n x d → d ≤ c
dist_within far w n x c d h e dist =
    let r = cost_reaches far w n x c h e in
    let short : r.0 ≤ c = r.1 in
    let least : d ≤ r.0 = dist.1 r.0 r.2 in
    omega arith

pub ways_short : (far : Wiring) (x : Host) (w : Network) (n : Host) (k c : ℕ) → RoutesHold far w → cost_at (routings w) n x ≡ Some c → RouteWay far x w n k → k ≤ c
ways_short far x w n k c h e (Ends v m) = omega arith
ways_short far x w n k c h e (Hops u v m row j hop goes rest) =
    let f = hop_falls far u x m row h hop in
    let later = at_most_some (cost_at (routings v) row.«next» x) f.0
    (no_rise_at (cost_at (routings u) row.«next» x) (cost_at (routings v) row.«next» x) f.0 (goes_rise far u v goes row.«next» x) f.1) in
    let short : j ≤ later.0 = ways_short far x v row.«next» j later.0 (goes_keep far u v h goes) later.1 rest in
    let is : Some row.cost ≡ Some c = sym (cost_found (routings u) m x hop.routing hop.here ∙ ap route_cost hop.by) ∙ e in
    let same : row.cost ≡ c = cc in
    let less : f.0 < row.cost = f.2 in
    let low : later.0 ≤ f.0 = later.2 in
    omega arith

-- a packet on the wire for a node has a route there
pub arrival_routes : (far : Wiring) (w : Network) (m : Host) (d : Dev) (x : Host) → RoutesHold far w → Contains w.wire ((m, d), Parcel x) → IsKnown (cost_at (routings w) m x)
arrival_routes far w m d x h on = All-contains (λ y. FrameTrue (routings w) y.0.0 y.1) w.wire ((m, d), Parcel x) h.wire on

fresh_holds : (far : Wiring) (w : Network) (node : Node) → IsOpening far w → IsFresh far (routings w) node → NodeHolds far (routings w) node
fresh_holds far w node o f = record {
  linked = f.linked;
  heard = λ link among. record { own = own link among; told = All-same (Tells link) node.routing.heard [] f.heard (All-nil (Tells link)) };
  queues = λ d queue end get leads. All-same (FrameTrue (routings w) end.0) queue [] (all_get (λ q. q ≡ []) node.queues d.0 queue f.queues get) (All-nil (FrameTrue (routings w) end.0));
}
  where
    Tells : Host × Dev → Dev × Advert → Type 0
    Tells link told = told.0.0 ≡ link.1.0 → All (RowTrue (routings w) link.0) told.1.rows

    own : (link : Host × Dev) → Contains node.routing.neighbours link → AtMost (cost_at (routings w) link.0 link.0) 0
    own link among =
        let t = f.there link among in
        let here : t.0.here ≡ link.0 = (routing_found (IsFresh far (routings w)) w.nodes link.0 t.0 o.nodes t.1).here in
        let is : cost_at (routings w) link.0 link.0 ≡ Some 0 =
        cost_found (routings w) link.0 link.0 t.0 t.1 ∙ (ap (cost t.0) (sym here) ∙ ap route_cost (route_own t.0)) in
        let P : Option ℕ → Type 0 = λ c. AtMost c 0 in
        let none : AtMost (Some 0) 0 = omega arith in
        subst P (sym is) none

pub opening_true : (far : Wiring) (w : Network) → IsOpening far w → RoutesHold far w
opening_true far w o = record {
  nodes = All-weaker (IsFresh far (routings w)) (NodeHolds far (routings w)) (λ node f. fresh_holds far w node o f) w.nodes o.nodes;
  wire = All-same (λ x. FrameTrue (routings w) x.0.0 x.1) w.wire [] o.wire (All-nil (λ x. FrameTrue (routings w) x.0.0 x.1));
}

-- a route to the node itself stays at home
pub home : (far : Wiring) (w : Network) (n : Host) (r : Routing) (row : RouteRow) (end : Host × Dev) → RoutesHold far w → routing_at (routings w) n ≡ Some r → route r n ≡ Some row
    → far n row.dev ≡ Some end → (row.cost ≡ 0) × (end.0 ≡ n)
home far w n r row end h at by leads_to =
    let f = at_host far w n r h at in
    let own : Some (own_route r.here) ≡ Some row = sym (route_own r) ∙ (ap (route r) f.here ∙ by) in
    let is : own_route r.here ≡ row = cc in
    let r_own : far r.here (record { 0 = 0 }) ≡ Some (r.here, record { 0 = 0 }) = ap (λ s. far s.here (record { 0 = 0 })) (sym f.is) ∙ (f.holds.linked.own ∙ ap (λ s. own_end s.here) f.is) in
    let there : Some (r.here, zero_dev) ≡ Some end = sym r_own ∙ (ap (λ k. far k zero_dev) f.here ∙ (ap (λ d. far n d) (ap (λ k. k.dev) is) ∙ leads_to)) in
    (ap (λ k. k.cost) (sym is), ap (λ p. p.0) (sym (some_same there)) ∙ f.here)
  where
    zero_dev : Dev
    zero_dev = record { 0 = 0 }

    own_end : Host → Option (Host × Dev)
    own_end m = Some (m, record { 0 = 0 })

    some_same : ◌≡◌ {A = Option (Host × Dev)} (Some (r.here, record { 0 = 0 })) (Some end) → (r.here, record { 0 = 0 }) ≡ end
    some_same k = cc
