use Rattle.std.proofs.Common.{subst, sym}
use Rattle.dv_routing.specs.Routing.{hears}
use Rattle.dv_routing.specs.Stands.{Stands}
use Rattle.node_core_parts.proofs.routes.Routes.hear.Goals as goal

pub invariant_of-self : goal.invariant_of-self
invariant_of-self c = let i = c.self.invariant.0 in (
  record {
    routing = hears i.routing c.args.dev c.args.advert.now;
    stands = c.hear.ensures i.routing i.stands;
    here = i.here;
    hosts = i.hosts;
  },
  tt,
)

pub returns : goal.returns
returns c = λ r s. c.hear.ensures r (subst (λ t. Stands r t) (sym c.self.view_is) s)
