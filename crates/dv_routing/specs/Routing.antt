-- Costs and routes by the adverts that a node heard, and what it advertises of them.
use Rattle.std.specs.Prelude.{ℕ, ◌+◌, Bool, ◌==◌, nat_lt, ◌&&◌, ◌||◌, if◌then◌else◌, Option, Some, None, List, [], ◌∷◌, ◌++◌, map}
use Rattle.std.specs.List.{flat_map, list_any}
use Rattle.std.specs.Option.{option_to_list}
use Rattle.plan_base.specs.declared.ids.Host.{Host}
use Rattle.plan_base.specs.declared.ids.Dev.{Dev}
use Rattle.service_api.specs.declared.router.RouteRow.{RouteRow}
use Rattle.service_api.specs.declared.advert.AdvertRow.{AdvertRow}
use Rattle.service_api.specs.declared.advert.Advert.{Advert}

-- what routes come from: the node, the network's hosts, the neighbours, and all adverts heard with their devices, the first one first
pub record Routing : Type 0 where
  pub here : Host
  pub hosts : List Host
  pub neighbours : List (Host × Dev)
  pub heard : List (Dev × Advert)

-- a node that has heard nothing
abbrev pub opening_routing : Host → List Host → List (Host × Dev) → Routing
opening_routing here hosts neighbours = record { here = here; hosts = hosts; neighbours = neighbours; heard = [] }

-- after one more advert
abbrev pub hears : Routing → Dev → Advert → Routing
hears r d a = record { here = r.here; hosts = r.hosts; neighbours = r.neighbours; heard = r.heard ++ (d, a) ∷ [] }

-- whether a host is among these
abbrev pub is_among : List Host → Host → Bool
is_among hosts x = list_any (λ h. h.0 == x.0) hosts

-- the lesser of two costs; None is no cost
abbrev pub least : Option ℕ → Option ℕ → Option ℕ
least None b = b
least (Some a) None = Some a
least (Some a) (Some b) = if nat_lt b a then Some b else Some a

-- the cost for x in a row; a row for a host outside the network is skipped, and one of cost 65,535, since no row can carry one more
abbrev pub row_cost : List Host → Host → AdvertRow → Option ℕ
row_cost hosts x row = if (row.host.0 == x.0) && (is_among hosts row.host && nat_lt row.cost 65535) then Some row.cost else None

-- the least cost for x in some rows
unfoldable pub rows_cost : List Host → Host → List AdvertRow → Option ℕ
rows_cost hosts x [] = None
rows_cost hosts x (row ∷ rows) = least (row_cost hosts x row) (rows_cost hosts x rows)

-- the cost for x in an advert, where it was heard on this device
abbrev pub told_on : List Host → Host → Dev → Dev × Advert → Option ℕ
told_on hosts x d told = if told.0.0 == d.0 then rows_cost hosts x told.1.rows else None

-- the least cost for x in all adverts heard on a device
unfoldable pub heard_cost : List Host → Host → Dev → List (Dev × Advert) → Option ℕ
heard_cost hosts x d [] = None
heard_cost hosts x d (told ∷ later) = least (told_on hosts x d told) (heard_cost hosts x d later)

-- a neighbour counts as heard with 0 for itself
abbrev pub own_cost : Host → Host → Option ℕ
own_cost m x = if m.0 == x.0 then Some 0 else None

-- the least cost for x at a neighbour, as far as it was heard
unfoldable pub near_cost : Routing → Host → Host × Dev → Option ℕ
near_cost r x link = least (own_cost link.0 x) (heard_cost r.hosts x link.1 r.heard)

-- the route to x over a neighbour that has this cost
abbrev pub over_link : Host → Host × Dev → Option ℕ → Option RouteRow
over_link x link None = None
over_link x link (Some cost) = Some (record { host = x; «next» = link.0; dev = link.1; cost = cost + 1 })

-- whether the first route costs less, or as much over a lower device
abbrev pub is_better : RouteRow → RouteRow → Bool
is_better a b = nat_lt a.cost b.cost || ((a.cost == b.cost) && nat_lt a.dev.0 b.dev.0)

-- the better of two routes, where there are any
abbrev pub better : Option RouteRow → Option RouteRow → Option RouteRow
better None b = b
better (Some a) None = Some a
better (Some a) (Some b) = if is_better b a then Some b else Some a

-- the best of a route and those over the neighbours
unfoldable pub best_from : Routing → Host → Option RouteRow → List (Host × Dev) → Option RouteRow
best_from r x best [] = best
best_from r x best (link ∷ links) = best_from r x (better best (over_link x link (near_cost r x link))) links

-- the node itself is reached over device 0 with cost 0
abbrev pub own_route : Host → RouteRow
own_route here = record { host = here; «next» = here; dev = record { 0 = 0 }; cost = 0 }

-- the route to a host: the best over the neighbours
unfoldable pub route : Routing → Host → Option RouteRow
route r x = if r.here.0 == x.0 then Some (own_route r.here) else best_from r x None r.neighbours

abbrev pub route_cost : Option RouteRow → Option ℕ
route_cost None = None
route_cost (Some row) = Some row.cost

-- the cost of a host
abbrev pub cost : Routing → Host → Option ℕ
cost r x = route_cost (route r x)

-- the routes to these hosts, as far as they are known
abbrev pub routes_to : Routing → List Host → List RouteRow
routes_to r hosts = flat_map (λ x. option_to_list (route r x)) hosts

-- the routes to all hosts of the network
unfoldable pub all_routes : Routing → List RouteRow
all_routes r = routes_to r r.hosts

-- the route to one host, where it is one of the network
abbrev pub route_within : Routing → Host → Option RouteRow
route_within r x = if is_among r.hosts x then route r x else None

-- the same in a list
abbrev pub routes_within : Routing → Host → List RouteRow
routes_within r x = option_to_list (route_within r x)

-- what is advertised of a route
abbrev pub advert_row : RouteRow → AdvertRow
advert_row row = record { host = row.host; cost = row.cost }

-- the advert of a node
unfoldable pub own_advert : Routing → Advert
own_advert r = record { host = r.here; rows = map advert_row (all_routes r) }

-- the first route to a host in a list of routes
abbrev pub row_for : List RouteRow → Host → Option RouteRow
row_for [] x = None
row_for (row ∷ rows) x = if row.host.0 == x.0 then Some row else row_for rows x
