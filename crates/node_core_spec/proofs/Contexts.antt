-- The context of a visit is in order, and devices in order are few.
use Rattle.std.proofs.Common.{ℕ, ◌+◌, ◌≤◌, ◌<◌, List, [], ◌∷◌, length, Option, None, Some, arith}
use Rattle.std.specs.Prelude.{All, map}
use Rattle.std.proofs.lemmas.List.Elements.{All-head, All-tail, All-weaker}
use Rattle.plan_base.specs.declared.ids.Host.{Host}
use Rattle.plan_base.specs.declared.ids.Dev.{Dev}
use Rattle.plan_base.specs.declared.tree.Packet.{Packet}
use Rattle.service_api.specs.declared.router.RouteRow.{RouteRow}
use Rattle.service_api.specs.Adverts.{RowsFit, AdvertFits}
use Rattle.dv_routing.specs.Routing.{Routing, all_routes, advert_row, own_advert}
use Rattle.dv_routing.proofs.Rows.{advert_fits}
use Rattle.network_config.specs.Rules.{IsLinkDevice}
use Rattle.network_config.specs.NodeRules.{DevicesAscend}
use Rattle.node_core_spec.specs.State.{Links, NodeState, routing_of}
use Rattle.node_core_spec.specs.Visits.{around}
use Rattle.node_core_spec.specs.Contexts.{RoutesAscend, IsOrdered}
use Rattle.node_core_spec.specs.Fits.{NodeFits}

rows_ascend : (before : Option ℕ) (rows : List RouteRow) → RowsFit before (map advert_row rows) → RoutesAscend before rows
rows_ascend before [] h = tt
rows_ascend before (r ∷ rs) h = (h.0.0, rows_ascend (Some r.host.0) rs h.2)

routes_ascend : (r : Routing) → AdvertFits (own_advert r) → RoutesAscend None (all_routes r)
unfolding own_advert
routes_ascend r h = rows_ascend None (all_routes r) h.2

-- neighbours by device, and routes by host
pub node_ordered : (node : NodeState) (p : Packet) → NodeFits node → IsOrdered (around node p)
node_ordered node p n = record {
  neighbours = n.ordered;
  routes = routes_ascend (routing_of node) (advert_fits (routing_of node) n.here n.hosts.numbers n.hosts.few n.hosts.ascend);
}

-- ---- devices from 1 to 8

abbrev Above : ℕ → Host × Dev → Type 0
Above n l = n < l.1.0

abbrev Within : Host × Dev → Type 0
Within l = l.1.0 ≤ 8

few_above : (n : ℕ) (links : Links) → n ≤ 8 → All (Above n) links → All Within links → DevicesAscend links → length links + n ≤ 8
few_above n [] k a w d = omega (arith, k)
few_above n (l ∷ ls) k a w d =
    let low = All-head (Above n) l ls a in
    let high = All-head Within l ls w in
    let more = few_above l.1.0 ls high d.0 (All-tail Within l ls w) d.1 in
    omega (arith, low, more)

-- at most 8 neighbours are on devices from 1 to 8, each once
pub near_by_devices : (links : Links) → All (λ l. IsLinkDevice l.1) links → DevicesAscend links → length links ≤ 8
near_by_devices links i d =
    let low = All-weaker (λ (l : Host × Dev). IsLinkDevice l.1) (Above 0) (λ l h. h.0) links i in
    let high = All-weaker (λ (l : Host × Dev). IsLinkDevice l.1) Within (λ l h. h.1) links i in
    let few = few_above 0 links (omega arith) low high d in
    omega (arith, few)
