-- The routes of a node that has heard nothing.
use Rattle.std.proofs.Common.{◌≡◌, ◌<◌, ◌^◌, List, [], subst}
use Rattle.plan_base.specs.declared.ids.Host.{Host}
use Rattle.plan_base.specs.declared.ids.Dev.{Dev}
use Rattle.dv_routing.specs.declared.table.Table.{Table}
use Rattle.dv_routing.specs.Routing.{opening_routing}
use Rattle.dv_routing.specs.Sorted.{sorted_into, HostsSmall}
use Rattle.dv_routing.specs.Stands.{Stands}
use Rattle.node_core_spec.specs.Fits.{NetworkFits}
use Rattle.node_core_spec.proofs.HostLaws.{sorted_fit}
use Rattle.node_core_parts.specs.Heard.{IsHeard, TellsAll}
use Rattle.std.proofs.Common.{sym}
use Rattle.std.specs.Prelude.{Result, Ok, Err, IfOk}
use Rattle.plan_base.specs.declared.memory.NoMemory.{NoMemory}
use Rattle.service_api.specs.declared.advert.Advert.{Advert}
use Rattle.service_api.specs.declared.router.RouteRow.{RouteRow}
use Rattle.service_api.specs.Adverts.{AdvertFits}
use Rattle.dv_routing.specs.Routing.{Routing, all_routes, own_advert}
use Rattle.dv_routing.proofs.Rows.{advert_fits}

-- a table that has heard nothing
pub opened_heard : (t : Table) (here : Host) (hosts sorted : List Host) (links : List (Host × Dev)) → here.0 < 2 ^ 32 → NetworkFits hosts → sorted ≡ sorted_into [] hosts → HostsSmall sorted
    → Stands (opening_routing here sorted links) t → IsHeard t
opened_heard t here hosts sorted links small n e numbers s = record {
  routing = opening_routing here (sorted_into [] hosts) links;
  stands = subst (λ hs. Stands (opening_routing here hs links) t) e s;
  here = small;
  hosts = sorted_fit hosts n (subst HostsSmall e numbers);
}

-- what is advertised of a table that is heard fits
pub advert_keeps : (t : Table) (r : Result Advert NoMemory) → IsHeard t → ((g : Routing) → Stands g t → IfOk r (λ a. a ≡ own_advert g)) → IfOk r AdvertFits
advert_keeps t (Ok a) k h = subst AdvertFits (sym (h k.routing k.stands)) (advert_fits k.routing k.here k.hosts.numbers k.hosts.few k.hosts.ascend)
advert_keeps t (Err e) k h = h k.routing k.stands

-- the routes that a table gives are those of all that it may have heard
pub told_all : (t : Table) (r : Result (List RouteRow) NoMemory) → ((g : Routing) → Stands g t → IfOk r (λ rows. rows ≡ all_routes g)) → IfOk r (TellsAll t)
told_all t (Ok rows) h = h
told_all t (Err e) h = tt
