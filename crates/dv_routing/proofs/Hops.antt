-- The next hop by a node's list of routes is its route.
use Rattle.std.proofs.Common.{◌≡◌, ℕ, Bool, true, false, cond, not, eqb, Option, Some, None, List, [], ◌∷◌, inl, inr, refl, sym, ap, subst, ◌∙◌}
use Rattle.std.specs.Str.{bytes_eq}
use Rattle.std.specs.Option.{option_to_list}
use Rattle.plan_base.specs.declared.ids.Host.{Host}
use Rattle.plan_base.specs.declared.ids.Dev.{Dev}
use Rattle.service_api.specs.declared.router.RouteRow.{RouteRow}
use Rattle.service_api.specs.declared.router.Hop.{Hop}
use Rattle.service_api.specs.declared.router.Hop.TheVariants.{To, NoService, NoRoute}
use Rattle.service_api.specs.Routes.{hop, hop_in, own_device, default_route}
use Rattle.dv_routing.specs.Routing.{Routing, is_among, heard_cost, own_cost, near_cost, route, route_cost, cost, own_route, routes_to, all_routes, routes_within, row_for}
use Rattle.dv_routing.specs.Laws.{IsRoute, IsRouteAnswer, LeadsBy, HostsHold}
use Rattle.dv_routing.proofs.Costs.{least_from, same_host, heard_outside}
use Rattle.dv_routing.proofs.Best.{route_own, route_answer, route_host, same_or_not}
use Rattle.dv_routing.proofs.Rows.{rows_for, row_first}

abbrev hop_of : Option RouteRow → Hop
hop_of None = NoRoute
hop_of (Some row) = To row.«next» row.dev

hop_by_row : (rows : List RouteRow) (x : Host) → hop_in rows x ≡ hop_of (row_for rows x)
hop_by_row [] x = refl
hop_by_row (row ∷ rows) x = split (hop_by_row rows x) (eqb row.host.0 x.0)
  where
    split : hop_in rows x ≡ hop_of (row_for rows x) → (t : Bool) → cond t (To row.«next» row.dev) (hop_in rows x) ≡ hop_of (cond t (Some row) (row_for rows x))
    split rest true = refl
    split rest false = rest

hop_by_route : (r : Routing) (x : Host) → hop_in (all_routes r) x ≡ hop_of (cond (is_among r.hosts x) (route r x) None)
unfolding all_routes
hop_by_route r x = hop_by_row (routes_to r r.hosts) x ∙ ap hop_of (rows_for r x r.hosts)

-- the hop by the one route to a host is that by all routes
pub one_hop : (r : Routing) (name : List ℕ) (here x : Host) → hop (routes_within r x) name here x ≡ hop (all_routes r) name here x
unfolding hop
one_hop r name here x = ap (λ h. cond (not (bytes_eq name default_route)) NoService (cond (eqb here.0 x.0) (To x own_device) h)) same
  where
    only : (t : Bool) (o : Option RouteRow) → route r x ≡ o → row_for (option_to_list (cond t o None)) x ≡ cond t o None
    only true (Some row) e = row_first x row [] (route_host r x row e)
    only true None e = refl
    only false o e = refl

    same : hop_in (routes_within r x) x ≡ hop_in (all_routes r) x
    same = hop_by_row (routes_within r x) x ∙ (ap hop_of (only (is_among r.hosts x) (route r x) refl) ∙ sym (hop_by_route r x))

pub hop_leads : (r : Routing) (name : List ℕ) (x m : Host) (d : Dev) → hop (all_routes r) name r.here x ≡ To m d → LeadsBy r x m d
unfolding hop
hop_leads r name x m d e = named_service_leads (bytes_eq name default_route) e
  where
    by_route : (o : Option RouteRow) → route r x ≡ o → hop_of o ≡ To m d → LeadsBy r x m d
    by_route None h k = absurd (none k)
      where
        none : NoRoute ≡ To m d → ⊥
        none same = cc
    by_route (Some row) h k = record { row = row; by = h; to = cc; over = cc }

    among : (t : Bool) → hop_of (cond t (route r x) None) ≡ To m d → LeadsBy r x m d
    among true k = by_route (route r x) refl k
    among false k = absurd (none k)
      where
        none : NoRoute ≡ To m d → ⊥
        none same = cc

    own : (t : Bool) → eqb r.here.0 x.0 ≡ t → cond t (To x own_device) (hop_in (all_routes r) x) ≡ To m d → LeadsBy r x m d
    own true h k =
        let same : r.here ≡ x = same_host r.here x h in
        let to : x ≡ m = cc in
        let over : own_device ≡ d = cc in
        record { row = own_route r.here; by = sym (ap (route r) same) ∙ route_own r; to = same ∙ to; over = over }
    own false h k = among (is_among r.hosts x) (sym (hop_by_route r x) ∙ k)

    named_service_leads : (t : Bool) → cond (not t) NoService (cond (eqb r.here.0 x.0) (To x own_device) (hop_in (all_routes r) x)) ≡ To m d → LeadsBy r x m d
    named_service_leads true k = own (eqb r.here.0 x.0) refl k
    named_service_leads false k = absurd (none k)
      where
        none : NoService ≡ To m d → ⊥
        none same = cc

-- a host with a cost is one of the network
pub cost_among : (r : Routing) (x : Host) (row : RouteRow) → HostsHold r → route r x ≡ Some row → is_among r.hosts x ≡ true
unfolding near_cost
cost_among r x row h e =
    elim (same_or_not r.here x) [
      | inl same ↦ sym (ap (is_among r.hosts) same) ∙ h.here
      | inr other ↦ let P : Option RouteRow → Type 0 = IsRouteAnswer r x in over (subst P e (route_answer r x other))
    ]
  where
    over : IsRoute r x row → is_among r.hosts x ≡ true
    over i =
        let link : Host × Dev = (row.«next», row.dev) in
        elim (least_from (own_cost row.«next» x) (heard_cost r.hosts x row.dev r.heard) i.cost.0 i.cost.2) [
          | inl own ↦ near (eqb row.«next».0 x.0) refl own
          | inr heard ↦ outside (is_among r.hosts x) refl heard
        ]
      where
        none : (c : ℕ) → ◌≡◌ {A = Option ℕ} None (Some c) → ⊥
        none c k = cc

        near : (t : Bool) → eqb row.«next».0 x.0 ≡ t → cond t (Some 0) None ≡ Some i.cost.0 → is_among r.hosts x ≡ true
        near true k own = sym (ap (is_among r.hosts) (same_host row.«next» x k)) ∙ h.near (row.«next», row.dev) i.link
        near false k own = absurd (none i.cost.0 own)

        outside : (t : Bool) → is_among r.hosts x ≡ t → heard_cost r.hosts x row.dev r.heard ≡ Some i.cost.0 → is_among r.hosts x ≡ true
        outside true k heard = k
        outside false k heard = absurd (none i.cost.0 (sym (heard_outside r.hosts x row.dev r.heard k) ∙ heard))

-- where a cost is known, there is a hop
pub known_hops : (r : Routing) (x : Host) (c : ℕ) → HostsHold r → cost r x ≡ Some c → (m : Host) × (d : Dev) × (hop (all_routes r) default_route r.here x ≡ To m d)
unfolding hop
known_hops r x c h e = at (route r x) refl e
  where
    none : ◌≡◌ {A = Option ℕ} None (Some c) → ⊥
    none k = cc

    at : (o : Option RouteRow) → route r x ≡ o → route_cost o ≡ Some c
        → (m : Host) × (d : Dev) × (cond (eqb r.here.0 x.0) (To x own_device) (hop_in (all_routes r) x) ≡ To m d)
    at None k cost_is = absurd (none cost_is)
    at (Some row) k cost_is = split (eqb r.here.0 x.0)
      where
        split : (t : Bool) → (m : Host) × (d : Dev) × (cond t (To x own_device) (hop_in (all_routes r) x) ≡ To m d)
        split true = (x, own_device, refl)
        split false = (row.«next», row.dev, hop_by_route r x ∙ (ap (λ t. hop_of (cond t (route r x) None)) (cost_among r x row h k) ∙ ap hop_of k))
