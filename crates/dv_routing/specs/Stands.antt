-- What a table stands for.
use Rattle.std.specs.Prelude.{◌≡◌, map}
use Rattle.plan_base.specs.declared.ids.Host.{Host}
use Rattle.plan_base.specs.declared.ids.Dev.{Dev}
use Rattle.dv_routing.specs.declared.table.Known.{Known}
use Rattle.dv_routing.specs.declared.table.Lane.{Lane}
use Rattle.dv_routing.specs.declared.table.Table.{Table}
use Rattle.dv_routing.specs.Routing.{Routing, heard_cost}

-- the least cost that was heard for a host on a device
abbrev pub known_of : Routing → Dev → Host → Known
known_of r d x = record { host = x; least = heard_cost r.hosts x d r.heard }

abbrev pub lane_of : Routing → Host × Dev → Lane
lane_of r link = record { host = link.0; dev = link.1; known = map (known_of r link.1) r.hosts }

-- a table stands for all adverts heard: it has the least cost that they give for each host on each device
pub record Stands (r : Routing) (t : Table) : Type 0 where
  pub here : t.here ≡ r.here
  pub hosts : t.hosts ≡ r.hosts
  pub lanes : t.lanes.items ≡ map (lane_of r) r.neighbours
