use Rattle.std.proofs.Common.{◌∙◌, ap}
use Rattle.service_api.specs.Routes.{hop}
use Rattle.dv_routing.specs.Routing.{all_routes}
use Rattle.dv_routing.proofs.Hops.{one_hop}
use Rattle.node_core_spec.specs.State.{routing_of}
use Rattle.node_core.proofs.node.Node.hop.Goals as goal

pub returns : goal.returns
returns g c = λ s h.
    let rows = c.in_ok-router.ensures (routing_of s) h.routes in
    let name = c.args.packet.now.route in
    c.next.ensures ∙ ((λ i. hop (rows i) (c.route.ensures i) (h.here i) c.dest-dest.result)
    ∙ (one_hop (routing_of s) name s.here c.dest-dest.result ∙ ap (hop (all_routes (routing_of s)) name s.here) c.dest-dest.ensures))
