-- What the lanes of a table keep and answer.
use Rattle.std.specs.Prelude.{ℕ, ◌==◌, nat_lt, ◌&&◌, if◌then◌else◌, Option, Some, None, List, [], ◌∷◌, map}
use Rattle.plan_base.specs.declared.ids.Host.{Host}
use Rattle.plan_base.specs.declared.ids.Dev.{Dev}
use Rattle.service_api.specs.declared.router.RouteRow.{RouteRow}
use Rattle.service_api.specs.declared.advert.AdvertRow.{AdvertRow}
use Rattle.dv_routing.specs.declared.table.Known.{Known}
use Rattle.dv_routing.specs.declared.table.Lane.{Lane}
use Rattle.dv_routing.specs.Routing.{least, over_link, better}

-- the cost that a row gives for a host
abbrev pub told_cost : Host → AdvertRow → Option ℕ
told_cost x row = if (row.host.0 == x.0) && nat_lt row.cost 65535 then Some row.cost else None

-- the least cost that rows give for a host
unfoldable pub taken_cost : Host → List AdvertRow → Option ℕ
taken_cost x [] = None
taken_cost x (row ∷ rows) = least (told_cost x row) (taken_cost x rows)

-- what is known of a host, after these rows
abbrev pub known_after : List AdvertRow → Known → Known
known_after rows k = record { host = k.host; least = least k.least (taken_cost k.host rows) }

-- a lane, after rows on a device
abbrev pub lane_after : Dev → List AdvertRow → Lane → Lane
lane_after d rows lane = if d.0 == lane.dev.0 then record { host = lane.host; dev = lane.dev; known = map (known_after rows) lane.known } else lane

-- a host of which nothing was heard
abbrev pub unknown : Host → Known
unknown x = record { host = x; least = None }

-- a lane that has heard nothing
abbrev pub fresh_lane : List Host → Host × Dev → Lane
fresh_lane hosts link = record { host = link.0; dev = link.1; known = map unknown hosts }

-- the cost that is known for a host
abbrev pub known_cost : List Known → Host → Option ℕ
known_cost [] x = None
known_cost (k ∷ ks) x = if k.host.0 == x.0 then k.least else known_cost ks x

-- the cost for a host at a lane's neighbour
abbrev pub lane_cost : Host → Lane → Option ℕ
lane_cost x lane = if lane.host.0 == x.0 then Some 0 else known_cost lane.known x

-- the route to a host over a lane
abbrev pub lane_route : Host → Lane → Option RouteRow
lane_route x lane = over_link x (lane.host, lane.dev) (lane_cost x lane)

-- the best of a route and those over lanes
abbrev pub best_lane : Host → Option RouteRow → List Lane → Option RouteRow
best_lane x best [] = best
best_lane x best (lane ∷ lanes) = best_lane x (better best (lane_route x lane)) lanes
