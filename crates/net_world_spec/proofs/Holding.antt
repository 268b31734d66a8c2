-- What holds of routes in a network, from what holds of it cut down.
use Rattle.std.proofs.Common.{◌≡◌, ◌≢◌, ℕ, ◌≤◌, Bool, true, false, cond, not, eqb, Option, Some, None, List, [], ◌∷◌, refl, sym, ap, subst, ◌∙◌, arith}
use Rattle.std.specs.Prelude.{map, All, Contains}
use Rattle.std.specs.Str.{bytes_eq}
use Rattle.std.proofs.lemmas.Bool.Decides.{Decides-eqb}
use Rattle.std.proofs.lemmas.List.Elements.{All-nil, All-cons, All-head, All-tail, All-weaker, All-contains, All-contains_itself}
use Rattle.plan_base.specs.declared.ids.Host.{Host}
use Rattle.plan_base.specs.declared.ids.Dev.{Dev}
use Rattle.plan_base.specs.declared.tree.Packet.{Packet}
use Rattle.packet_frame.specs.declared.frame.PlainFrame.{PlainFrame}
use Rattle.service_api.specs.declared.router.RouteRow.{RouteRow}
use Rattle.service_api.specs.declared.router.Hop.TheVariants.{To, NoService}
use Rattle.service_api.specs.Routes.{hop, hop_in, own_device, default_route}
use Rattle.dv_routing.specs.Routing.{Routing, route, route_cost, cost, own_route, all_routes}
use Rattle.dv_routing.specs.Laws.{HostsHold}
use Rattle.dv_routing.proofs.Best.{route_own}
use Rattle.dv_routing.proofs.Costs.{same_host}
use Rattle.dv_routing.proofs.Hops.{hop_leads, known_hops}
use Rattle.net_world_spec.specs.Network.{routings, cost_at as cut_cost}
use Rattle.net_world_spec.specs.Truths.{IsKnown, FrameTrue, RoutesHold as CutHolds, IsHop as CutHop}
use Rattle.net_world_spec.specs.Walks as cut_walks
use Rattle.net_world_spec.proofs.Walking as laws
use Rattle.node_core_spec.specs.State.{NodeState, routing_of, is_host}
use Rattle.node_core_spec.specs.Fits.{QueuesKeep}
use Rattle.net_world_spec.specs.declared.lines.LinkEnd.{LinkEnd}
use Rattle.net_world_spec.specs.declared.lines.FrameOnWire.{FrameOnWire}
use Rattle.net_world_spec.specs.World.{Cables, WorldState, peer_of, far_end}
use Rattle.net_world_spec.specs.Wires.{WireLeads}
use Rattle.net_world_spec.specs.Roads.{routing_in, route_by, route_at, cost_at, CableWalk, Here, Along, IsReached, IsDist, IsHop, HopsOver, Journey}
use Rattle.net_world_spec.specs.Routes.{LeadsDown, HasWay, FrameHasWay, RoutesHold}
use Rattle.net_world_spec.proofs.Cut.{cut_frame, cut_stamped, cut_wired, cut, end_of, wiring, same_routing, same_cost}
use Rattle.net_world_spec.proofs.Steps.{IsDefault, GoesDefault}

-- the law of routes holds of the network cut down; nodes and neighbours are hosts of the network; packets go by the one routing
-- function; frames on the wire lead to the other ends of their links; and each node is of the network's version
pub record WorldHolds (w : WorldState) : Type 0 where
  pub routes : CutHolds (wiring w.links) (cut w)
  pub hosts : All (λ node. HostsHold (routing_of node)) w.nodes
  pub queues : All (λ node. QueuesKeep GoesDefault node.queues) w.nodes
  pub wire : All (λ x. GoesDefault x.frame) w.wire
  pub leads : WireLeads w.links w.wire
  pub versions : All (λ node. node.version ≡ w.version) w.nodes

-- ---- looking up

-- what a node knows that was looked up is its own, and holds of it what holds of all
pub known_holds : (P : Routing → Type 0) (nodes : List NodeState) (n : Host) (r : Routing) → All (λ node. P (routing_of node)) nodes → routing_in nodes n ≡ Some r → P r × (r.here ≡ n)
known_holds P [] n r all e = absurd (none e)
  where
    none : ◌≡◌ {A = Option Routing} None (Some r) → ⊥
    none h = cc
known_holds P (node ∷ nodes) n r all e =
    split (known_holds P nodes n r (All-tail (λ m. P (routing_of m)) node nodes all)) (is_host node.here n) refl e
  where
    split : (routing_in nodes n ≡ Some r → P r × (r.here ≡ n)) → (t : Bool) → is_host node.here n ≡ t → cond t (Some (routing_of node)) (routing_in nodes n) ≡ Some r → P r × (r.here ≡ n)
    split rest true h k =
        let is : routing_of node ≡ r = cc in
        (subst P is (All-head (λ m. P (routing_of m)) node nodes all), ap (λ s. s.here) (sym is) ∙ same_host node.here n h)
    split rest false h k = rest k

-- the routing behind a route
record RoutingOf (nodes : List NodeState) (n x : Host) (row : RouteRow) : Type 0 where
  routing : Routing
  at : routing_in nodes n ≡ Some routing
  here : routing.here ≡ n
  by : route routing x ≡ Some row

route_known : (nodes : List NodeState) (n x : Host) (row : RouteRow) → route_at nodes n x ≡ Some row → RoutingOf nodes n x row
unfolding route_at
route_known nodes n x row e = split (routing_in nodes n) refl e
  where
    none : ◌≡◌ {A = Option RouteRow} None (Some row) → ⊥
    none h = cc

    split : (o : Option Routing) → routing_in nodes n ≡ o → route_by x o ≡ Some row → RoutingOf nodes n x row
    split None h k = absurd (none k)
    split (Some r) h k = record { routing = r; at = h; here = (known_holds (λ s. Unit {0}) nodes n r (λ i d lt. tt) h).1; by = k }

route_there : (nodes : List NodeState) (n x : Host) (r : Routing) (row : RouteRow) → routing_in nodes n ≡ Some r → route r x ≡ Some row → route_at nodes n x ≡ Some row
unfolding route_at
route_there nodes n x r row at by = ap (route_by x) at ∙ by

-- the routing behind a cost
record CostOf (nodes : List NodeState) (n x : Host) (c : ℕ) : Type 0 where
  routing : Routing
  at : routing_in nodes n ≡ Some routing
  is : cost routing x ≡ Some c

cost_known : (nodes : List NodeState) (n x : Host) (c : ℕ) → cost_at nodes n x ≡ Some c → CostOf nodes n x c
unfolding cost_at route_at
cost_known nodes n x c e = split (routing_in nodes n) refl e
  where
    none : ◌≡◌ {A = Option ℕ} None (Some c) → ⊥
    none h = cc

    split : (o : Option Routing) → routing_in nodes n ≡ o → route_cost (route_by x o) ≡ Some c → CostOf nodes n x c
    split None h k = absurd (none k)
    split (Some r) h k = record { routing = r; at = h; is = k }

-- ---- links

far_peer : (links : Cables) (a : Host) (d : Dev) (m : Host) (e : Dev) → d.0 ≢ 0 → wiring links a d ≡ Some (m, e) → peer_of links a d ≡ Some (record { host = m; dev = e })
unfolding far_end
far_peer links a d m e real leads = split (eqb d.0 0) refl leads
  where
    peer : (o : Option LinkEnd) → end_of o ≡ Some (m, e) → o ≡ Some (record { host = m; dev = e })
    peer None k = absurd (none k)
      where
        none : ◌≡◌ {A = Option (Host × Dev)} None (Some (m, e)) → ⊥
        none h = cc
    peer (Some far) k =
        let same : ◌≡◌ {A = Host × Dev} (far.host, far.dev) (m, e) = pair_is k in
        ap (λ p. let z : LinkEnd = record { host = p.0; dev = p.1 } in Some z) same
      where
        pair_is : ◌≡◌ {A = Option (Host × Dev)} (Some (far.host, far.dev)) (Some (m, e)) → ◌≡◌ {A = Host × Dev} (far.host, far.dev) (m, e)
        pair_is h = cc

    split : (t : Bool) → eqb d.0 0 ≡ t → end_of (cond t (Some (record { host = a; dev = d })) (peer_of links a d)) ≡ Some (m, e) → peer_of links a d ≡ Some (record { host = m; dev = e })
    split true h k = absurd (real ((Decides-eqb d.0 0).0 h))
    split false h k = peer (peer_of links a d) k

walk_of : (links : Cables) (b a : Host) (k : ℕ) → cut_walks.LinkWalk (wiring links) b a k → CableWalk links b a k
walk_of links b a k cut_walks.Here = Here
walk_of links b a k (cut_walks.Along n d m e j real leads rest) = Along n d (record { host = m; dev = e }) j (far_peer links n d m e real leads) (walk_of links b m j rest)

-- ---- hops

by_default : (rows : List RouteRow) (name : List ℕ) (here x : Host) → bytes_eq name default_route ≡ true → hop rows name here x ≡ hop rows default_route here x
unfolding hop
by_default rows name here x e = ap (λ t. cond (not t) NoService (cond (eqb here.0 x.0) (To x own_device) (hop_in rows x))) e

way_by : (nodes : List NodeState) (m : Host) (p : Packet) (r : Routing) (host : Host) (over : Dev) → routing_in nodes m ≡ Some r → r.here ≡ m → hop (all_routes r) p.route r.here p.dest ≡ To host over
    → HasWay nodes m p
way_by nodes m p r host over at here to =
    let l = hop_leads r p.route p.dest host over to in
    record {
      routing = r;
      here = at;
      row = l.row;
      by = l.by;
      hops = sym (ap (λ n. hop (all_routes r) p.route n p.dest) here) ∙ (to ∙ (ap (λ n. To n over) (sym l.to) ∙ ap (λ d. To l.row.«next» d) (sym l.over)));
    }

-- ---- what holds

module _ (w : WorldState) (h : WorldHolds w) where
  pub held_reach : (n x : Host) (c : ℕ) → cost_at w.nodes n x ≡ Some c → IsReached w.links n x c
  held_reach n x c e =
      let r = laws.cost_reaches (wiring w.links) (cut w) n x c h.routes (sym (same_cost w n x) ∙ e) in
      (r.0, r.1, walk_of w.links x n r.0 r.2)

  pub cut_hop : (x n : Host) (row : RouteRow) → IsHop w x n row → CutHop (cut w) x n row
  cut_hop x n row hop =
      let k = route_known w.nodes n x row hop.by in
      record {
        routing = k.routing;
        here = sym (same_routing w.nodes n) ∙ k.at;
        other = λ same. hop.other (sym k.here ∙ same);
        by = k.by;
      }

  pub held_fall : (n x : Host) (row : RouteRow) → IsHop w x n row → LeadsDown w x n row
  held_fall n x row hop =
      let cut_is = cut_hop x n row hop in
      let f = laws.hop_falls (wiring w.links) (cut w) x n row h.routes cut_is in
      let l = laws.hop_leads (wiring w.links) (cut w) x n row h.routes cut_is in
      record {
        end = l.end;
        link = far_peer w.links n row.dev row.«next» l.end l.real l.leads;
        cost = f.0;
        there = same_cost w row.«next» x ∙ f.1;
        lower = f.2;
      }

  held_home : (n : Host) (row : RouteRow) → route_at w.nodes n n ≡ Some row → (row.dev.0 ≡ 0) × (row.cost ≡ 0)
  held_home n row e =
      let k = route_known w.nodes n n row e in
      let own : Some (own_route k.routing.here) ≡ Some row = sym (route_own k.routing) ∙ (ap (route k.routing) k.here ∙ k.by) in
      let is : own_route k.routing.here ≡ row = cc in
      (ap (λ r. r.dev.0) (sym is), ap (λ r. r.cost) (sym is))

  -- a next hop is that of a route, whose device leads to its next host
  pub record OverRoute (x n : Host) (d : Dev) : Type 0 where
    pub row : RouteRow
    pub hop : IsHop w x n row
    pub end : Dev
    pub leads : wiring w.links n d ≡ Some (row.«next», end)

  pub held_over : (x n : Host) (d : Dev) → n ≢ x → HopsOver w x n d → OverRoute x n d
  held_over x n d other o =
      let here = (known_holds (λ s. Unit {0}) w.nodes n o.routing (λ i e lt. tt) o.here).1 in
      let by : hop (all_routes o.routing) default_route o.routing.here x ≡ To o.to d = ap (λ m. hop (all_routes o.routing) default_route m x) here ∙ o.by in
      let l = hop_leads o.routing default_route x o.to d by in
      let is : IsHop w x n l.row = record { other = other; by = route_there w.nodes n x o.routing l.row o.here l.by } in
      let leads = laws.hop_leads (wiring w.links) (cut w) x n l.row h.routes (cut_hop x n l.row is) in
      record { row = l.row; hop = is; end = leads.end; leads = ap (wiring w.links n) (sym l.over) ∙ leads.leads }

  -- a packet with a cost at a host has a route there, and its hop is that route
  way_of : (m : Host) (p : Packet) → bytes_eq p.route default_route ≡ true → IsKnown (cut_cost (routings (cut w)) m p.dest) → HasWay w.nodes m p
  way_of m p default known =
      let c = cost_known w.nodes m p.dest known.0 (same_cost w m p.dest ∙ known.1) in
      let held = known_holds HostsHold w.nodes m c.routing h.hosts c.at in
      let far = known_hops c.routing p.dest known.0 held.0 c.is in
      way_by w.nodes m p c.routing far.0 far.1 c.at held.1 (by_default (all_routes c.routing) p.route c.routing.here p.dest default ∙ far.2)

  frame_way : (m : Host) (x : PlainFrame) → IsDefault x → FrameTrue (routings (cut w)) m (cut_frame x) → FrameHasWay w.nodes m x
  frame_way m (PlainFrame.Packet p) default known = way_of m p default known
  frame_way m (PlainFrame.Advert a) default known = tt
  frame_way m (PlainFrame.Ask bound chunk) default known = tt

  map_all : {X Y : Type 0} (P : Y → Type 0) (f : X → Y) (xs : List X) → All P (map f xs) → All (λ x. P (f x)) xs
  map_all P f [] all = All-nil (λ y. P (f y))
  map_all P f (x ∷ xs) all = All-cons (λ y. P (f y)) x xs (All-head P (f x) (map f xs) all) (map_all P f xs (All-tail P (f x) (map f xs) all))

  pub wire_way : (x : FrameOnWire) → Contains w.wire x → FrameHasWay w.nodes x.to.host x.frame.frame
  wire_way x on =
      let true = map_all (λ y. FrameTrue (routings (cut w)) y.0.0 y.1) cut_wired w.wire h.routes.wire in
      frame_way x.to.host x.frame.frame (All-contains (λ y. GoesDefault y.frame) w.wire x h.wire on)
      (All-contains (λ y. FrameTrue (routings (cut w)) y.to.host (cut_stamped y.frame)) w.wire x true on)

  -- the hop to the own host is over device 0, which leads to it
  own_hop : (rows : List RouteRow) (n : Host) → hop rows default_route n n ≡ To n own_device
  unfolding hop
  own_hop rows n = ap (λ t. cond t (To n own_device) (hop_in rows n)) ((Decides-eqb n.0 n.0).1 refl)

  held_own : (n : Host) (d : Dev) → HopsOver w n n d → (d.0 ≡ 0) × (far_end w.links n d ≡ Some (record { host = n; dev = d }))
  unfolding far_end
  held_own n d o =
      let over : own_device ≡ d = over_is n o.to own_device d (sym (own_hop (all_routes o.routing) n) ∙ o.by) in
      let zero_is : d.0 ≡ 0 = ap (λ (e : Dev). e.0) (sym over) in
      let end : LinkEnd = record { host = n; dev = d } in
      (zero_is, ap (λ k. cond (eqb k 0) (Some end) (peer_of w.links n d)) zero_is)
    where
      over_is : (a b : Host) (d e : Dev) → To a d ≡ To b e → d ≡ e
      over_is a b d e same = cc

  -- what holds of routes, where journeys are short
  pub held_routes : ((n x : Host) (k c : ℕ) → cost_at w.nodes n x ≡ Some c → Journey x w n k → k ≤ c) → RoutesHold w
  held_routes short = record {
    reach = held_reach;
    fall = held_fall;
    home = held_home;
    wire = All-weaker (Contains w.wire) (λ x. FrameHasWay w.nodes x.to.host x.frame.frame) wire_way w.wire (All-contains_itself w.wire);
    short = short;
    own = held_own;
  }

  pub held_dist : (n x : Host) (c d : ℕ) → cost_at w.nodes n x ≡ Some c → IsDist w.links n x d → d ≤ c
  held_dist n x c d e dist =
      let r = held_reach n x c e in
      let short : r.0 ≤ c = r.1 in
      let least : d ≤ r.0 = dist.1 r.0 r.2 in
      omega arith
