-- The next hop by a node's routes.
use Rattle.std.specs.Prelude.{ℕ, not, if◌then◌else◌, ◌==◌, List, [], ◌∷◌, codes}
use Rattle.std.specs.Str.{bytes_eq}
use Rattle.plan_base.specs.declared.ids.Host.{Host}
use Rattle.plan_base.specs.declared.ids.Dev.{Dev}
use Rattle.service_api.specs.declared.router.RouteRow.{RouteRow}
use Rattle.service_api.specs.declared.router.Hop.{Hop}
use Rattle.service_api.specs.declared.router.Hop.TheVariants.{To, NoService, NoRoute}

-- the hop of the first row for the host
abbrev pub hop_in : List RouteRow → Host → Hop
hop_in [] host = NoRoute
hop_in (r ∷ rs) host = if r.host.0 == host.0 then To r.next r.dev else hop_in rs host

-- the device that leads to the node itself
abbrev pub own_device : Dev
own_device = record { 0 = 0 }

-- the one routing function that there is
abbrev pub default_route : List ℕ
default_route = codes "defaultRoute"

-- the next hop from here to the host by the routing function of that name
unfoldable pub hop : List RouteRow → List ℕ → Host → Host → Hop
hop rows route here host =
    if not (bytes_eq route default_route) then NoService else (if here.0 == host.0 then To host own_device else hop_in rows host)
