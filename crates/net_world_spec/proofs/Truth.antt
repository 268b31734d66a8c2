-- What is true stays true while no cost rises; costs fall along routes.
use Rattle.std.proofs.Common.{◌≡◌, ◌≢◌, ℕ, ◌+◌, ◌≤◌, Bool, true, false, cond, eqb, ltb, ◌&&◌, Option, Some, None, List, [], ◌∷◌, ◌++◌, inl, inr, refl, sym, ap, subst, ◌∙◌, arith}
use Rattle.std.specs.Prelude.{map}
use Rattle.std.specs.List.{All, Contains}
use Rattle.std.specs.Option.{option_to_list}
use Rattle.std.proofs.lemmas.List.Elements.{All-head, All-tail, All-weaker, All-nil, All-cons}
use Rattle.plan_base.specs.declared.ids.Host.{Host}
use Rattle.plan_base.specs.declared.ids.Dev.{Dev}
use Rattle.service_api.specs.declared.router.RouteRow.{RouteRow}
use Rattle.service_api.specs.declared.advert.AdvertRow.{AdvertRow}
use Rattle.service_api.specs.declared.advert.Advert.{Advert}
use Rattle.dv_routing.specs.Routing.{Routing, is_among, row_cost, rows_cost, told_on, heard_cost, own_cost, near_cost, route, route_cost, own_route, routes_to, all_routes, advert_row, own_advert}
use Rattle.dv_routing.specs.Laws.{AtMost, NoRise, IsRoute, IsRouteAnswer}
use Rattle.dv_routing.proofs.Costs.{same_host, least_within}
use Rattle.dv_routing.proofs.Best.{route_own, route_answer, route_host, same_or_not}
use Rattle.dv_routing.proofs.Rises.{at_most_some, no_rise_at}
use Rattle.net_world_spec.specs.Network.{Wiring, RouteFrame, Parcel, Told, Node, routing_at, cost_at}
use Rattle.net_world_spec.specs.Truths.{IsKnown, NoneRises, RowTrue, AdvertTrue, LinkTrue, FrameTrue, NodeHolds, Falls}
use Rattle.net_world_spec.proofs.Lookups.{at_most_known, rise_at_most, rise_known, cost_found}

-- while no cost rises

pub rows_rise : (rs ss : List Routing) (m : Host) (rows : List AdvertRow) → NoneRises rs ss → All (RowTrue rs m) rows → All (RowTrue ss m) rows
rows_rise rs ss m rows rises all = All-weaker (RowTrue rs m) (RowTrue ss m) (λ row h. rise_at_most rs ss m row.host row.cost rises h) rows all

pub frame_rises : (rs ss : List Routing) (m : Host) (frame : RouteFrame) → NoneRises rs ss → FrameTrue rs m frame → FrameTrue ss m frame
frame_rises rs ss m (Parcel x) rises h = rise_known rs ss m x rises h
frame_rises rs ss m (Told a) rises h = rows_rise rs ss a.host a.rows rises h

pub link_rises : (rs ss : List Routing) (heard : List (Dev × Advert)) (link : Host × Dev) → NoneRises rs ss → LinkTrue rs heard link → LinkTrue ss heard link
link_rises rs ss heard link rises h = record {
  own = rise_at_most rs ss link.0 link.0 0 rises h.own;
  told = All-weaker (λ told. told.0.0 ≡ link.1.0 → All (RowTrue rs link.0) told.1.rows) (λ told. told.0.0 ≡ link.1.0 → All (RowTrue ss link.0) told.1.rows)
      (λ told t e. rows_rise rs ss link.0 told.1.rows rises (t e)) heard h.told;
}

pub node_rises : (far : Wiring) (rs ss : List Routing) (node : Node) → NoneRises rs ss → NodeHolds far rs node → NodeHolds far ss node
node_rises far rs ss node rises h = record {
  linked = h.linked;
  heard = λ link among. link_rises rs ss node.routing.heard link rises (h.heard link among);
  queues = λ d queue end e k. All-weaker (FrameTrue rs end.0) (FrameTrue ss end.0) (λ frame t. frame_rises rs ss end.0 frame rises t) queue (h.queues d queue end e k);
}

-- what was heard of a neighbour is no less than what it knows

row_within : (rs : List Routing) (m : Host) (hosts : List Host) (x : Host) (row : AdvertRow) → RowTrue rs m row → NoRise (row_cost hosts x row) (cost_at rs m x)
row_within rs m hosts x row h = split (eqb row.host.0 x.0) refl (is_among hosts row.host && ltb row.cost 65535)
  where
    split : (t : Bool) → eqb row.host.0 x.0 ≡ t → (u : Bool) → NoRise (cond (t && u) (Some row.cost) None) (cost_at rs m x)
    split true e true = let P : Host → Type 0 = λ y. AtMost (cost_at rs m y) row.cost in subst P (same_host row.host x e) h
    split true e false = tt
    split false e u = tt

rows_within : (rs : List Routing) (m : Host) (hosts : List Host) (x : Host) (rows : List AdvertRow) → All (RowTrue rs m) rows → NoRise (rows_cost hosts x rows) (cost_at rs m x)
unfolding rows_cost
rows_within rs m hosts x [] all = tt
rows_within rs m hosts x (row ∷ rows) all =
    least_within (row_cost hosts x row) (rows_cost hosts x rows) (cost_at rs m x)
    (row_within rs m hosts x row (All-head (RowTrue rs m) row rows all)) (rows_within rs m hosts x rows (All-tail (RowTrue rs m) row rows all))

abbrev TellsTrue : List Routing → Host → Dev → Dev × Advert → Type 0
TellsTrue rs m d told = told.0.0 ≡ d.0 → All (RowTrue rs m) told.1.rows

told_within : (rs : List Routing) (m : Host) (hosts : List Host) (x : Host) (d : Dev) (told : Dev × Advert) → TellsTrue rs m d told
    → NoRise (told_on hosts x d told) (cost_at rs m x)
told_within rs m hosts x d told h = split (eqb told.0.0 d.0) refl
  where
    split : (t : Bool) → eqb told.0.0 d.0 ≡ t → NoRise (cond t (rows_cost hosts x told.1.rows) None) (cost_at rs m x)
    split true e = rows_within rs m hosts x told.1.rows (h (ap (λ k. k.0) (same_dev told.0 d e)))
      where
        same_dev : (a b : Dev) → eqb a.0 b.0 ≡ true → a ≡ b
        same_dev a b k = ap (λ n. let y : Dev = record { 0 = n } in y) (ap (λ y. y.0) (same_host (record { 0 = a.0 }) (record { 0 = b.0 }) k))
    split false e = tt

heard_within : (rs : List Routing) (m : Host) (hosts : List Host) (x : Host) (d : Dev) (heard : List (Dev × Advert)) → All (TellsTrue rs m d) heard
    → NoRise (heard_cost hosts x d heard) (cost_at rs m x)
unfolding heard_cost
heard_within rs m hosts x d [] all = tt
heard_within rs m hosts x d (told ∷ later) all =
    least_within (told_on hosts x d told) (heard_cost hosts x d later) (cost_at rs m x)
    (told_within rs m hosts x d told (All-head (TellsTrue rs m d) told later all)) (heard_within rs m hosts x d later (All-tail (TellsTrue rs m d) told later all))

own_within : (rs : List Routing) (m x : Host) → AtMost (cost_at rs m m) 0 → NoRise (own_cost m x) (cost_at rs m x)
own_within rs m x h = split (eqb m.0 x.0) refl
  where
    split : (t : Bool) → eqb m.0 x.0 ≡ t → NoRise (cond t (Some 0) None) (cost_at rs m x)
    split true e = let P : Host → Type 0 = λ y. AtMost (cost_at rs m y) 0 in subst P (same_host m x e) h
    split false e = tt

pub near_within : (rs : List Routing) (r : Routing) (x : Host) (link : Host × Dev) → LinkTrue rs r.heard link → NoRise (near_cost r x link) (cost_at rs link.0 x)
unfolding near_cost
near_within rs r x link h =
    least_within (own_cost link.0 x) (heard_cost r.hosts x link.1 r.heard) (cost_at rs link.0 x)
    (own_within rs link.0 x h.own) (heard_within rs link.0 r.hosts x link.1 r.heard h.told)

-- the neighbour to which a route leads has a lower cost
pub falls : (far : Wiring) (rs : List Routing) (node : Node) (x : Host) (row : RouteRow) → NodeHolds far rs node → node.routing.here ≢ x
    → route node.routing x ≡ Some row → Falls rs x row
falls far rs node x row h other e =
    let r = node.routing in
    let i : IsRoute r x row = subst (IsRouteAnswer r x) e (route_answer r x other) in
    let link : Host × Dev = (row.«next», row.dev) in
    let within = near_within rs r x link (h.heard link i.link) in
    let m = at_most_some (cost_at rs row.«next» x) i.cost.0 (no_rise_at (near_cost r x link) (cost_at rs row.«next» x) i.cost.0 within i.cost.2) in
    let below : m.0 ≤ i.cost.0 = m.2 in
    let is : row.cost ≡ i.cost.0 + 1 = i.cost.1 in
    (m.0, m.1, omega arith)

-- the device of a route leads to its next host
pub leads : (far : Wiring) (rs : List Routing) (node : Node) (x : Host) (row : RouteRow) → NodeHolds far rs node → node.routing.here ≢ x
    → route node.routing x ≡ Some row → (e : Dev) × (far node.routing.here row.dev ≡ Some (row.«next», e))
leads far rs node x row h other e =
    let r = node.routing in
    let i : IsRoute r x row = subst (IsRouteAnswer r x) e (route_answer r x other) in
    h.linked.near row.«next» row.dev i.link

pub real_route : (far : Wiring) (rs : List Routing) (node : Node) (x : Host) (row : RouteRow) → NodeHolds far rs node → node.routing.here ≢ x
    → route node.routing x ≡ Some row → row.dev.0 ≢ 0
real_route far rs node x row h other e =
    let r = node.routing in
    let i : IsRoute r x row = subst (IsRouteAnswer r x) e (route_answer r x other) in
    h.linked.real row.«next» row.dev i.link

-- two ends of one device are the same
pub same_end : (o : Option (Host × Dev)) (end : Host × Dev) (m : Host) (d : Dev) → o ≡ Some (m, d) → o ≡ Some end → m ≡ end.0
same_end o end m d e k = let s : (m, d) ≡ end = some_same (sym e ∙ k) in ap (λ p. p.0) s
  where
    some_same : ◌≡◌ {A = Option (Host × Dev)} (Some (m, d)) (Some end) → (m, d) ≡ end
    some_same h = cc

-- a packet goes where its host's cost is known
pub parcel_true : (far : Wiring) (rs : List Routing) (node : Node) (x : Host) (row : RouteRow) (end : Host × Dev) → NodeHolds far rs node
    → routing_at rs node.routing.here ≡ Some node.routing → route node.routing x ≡ Some row → far node.routing.here row.dev ≡ Some end → IsKnown (cost_at rs end.0 x)
parcel_true far rs node x row end h first e leads_to = elim (same_or_not node.routing.here x) [ inl same ↦ own same | inr other ↦ over other ]
  where
    own : node.routing.here ≡ x → IsKnown (cost_at rs end.0 x)
    own same =
        let r = node.routing in
        let a : Some (own_route r.here) ≡ Some row = sym (route_own r) ∙ (ap (route r) same ∙ e) in
        let b : own_route r.here ≡ row = cc in
        let there : r.here ≡ end.0 = same_end (far r.here row.dev) end r.here (record { 0 = 0 }) (ap (λ w. far r.here w.dev) (sym b) ∙ h.linked.own) leads_to in
        let known : cost_at rs r.here r.here ≡ Some 0 = cost_found rs r.here r.here r first ∙ ap route_cost (route_own r) in
        (0, ap (λ m. cost_at rs m x) (sym there) ∙ (ap (cost_at rs r.here) (sym same) ∙ known))

    over : node.routing.here ≢ x → IsKnown (cost_at rs end.0 x)
    over other =
        let f = falls far rs node x row h other e in
        let l = leads far rs node x row h other e in
        let there : row.«next» ≡ end.0 = same_end (far node.routing.here row.dev) end row.«next» l.0 l.1 leads_to in
        (f.0, ap (λ m. cost_at rs m x) (sym there) ∙ f.1)

-- a packet for a neighbour
pub neighbour_true : (far : Wiring) (rs : List Routing) (node : Node) (m : Host) (d : Dev) (end : Host × Dev) → NodeHolds far rs node
    → Contains node.routing.neighbours (m, d) → far node.routing.here d ≡ Some end → IsKnown (cost_at rs end.0 m)
neighbour_true far rs node m d end h among leads_to =
    let l = h.linked.near m d among in
    let there : m ≡ end.0 = same_end (far node.routing.here d) end m l.0 l.1 leads_to in
    let known = at_most_known (cost_at rs m m) 0 (h.heard (m, d) among).own in
    (known.0, ap (λ n. cost_at rs n m) (sym there) ∙ known.1)

-- a node's own advert is true
routes_true : (rs : List Routing) (r : Routing) (hs : List Host) → routing_at rs r.here ≡ Some r → All (RowTrue rs r.here) (map advert_row (routes_to r hs))
routes_true rs r [] first = All-nil (RowTrue rs r.here)
routes_true rs r (y ∷ hs) first = at (routes_true rs r hs first) (route r y) refl
  where
    at : All (RowTrue rs r.here) (map advert_row (routes_to r hs)) → (o : Option RouteRow) → route r y ≡ o → All (RowTrue rs r.here) (map advert_row (option_to_list o ++ routes_to r hs))
    at rest None e = rest
    at rest (Some row) e =
        let is : cost_at rs r.here row.host ≡ Some row.cost =
        ap (cost_at rs r.here) (route_host r y row e) ∙ (cost_found rs r.here y r first ∙ ap route_cost e) in
        let P : Option ℕ → Type 0 = λ o. AtMost o row.cost in
        let self : AtMost (Some row.cost) row.cost = omega arith in
        All-cons (RowTrue rs r.here) (advert_row row) (map advert_row (routes_to r hs)) (subst P (sym is) self) rest

pub advert_true : (rs : List Routing) (r : Routing) → routing_at rs r.here ≡ Some r → AdvertTrue rs (own_advert r)
unfolding all_routes own_advert
advert_true rs r first = routes_true rs r r.hosts first
