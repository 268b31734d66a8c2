use Rattle.node_core_parts.proofs.HostLaws.{advert_keeps}
use Rattle.node_core_parts.proofs.routes.Routes.advert.Goals as goal

pub returns-clause-fits : goal.returns-clause-fits
returns-clause-fits c = advert_keeps c.self.inside.table c.advert.result c.self.invariant.0 c.advert.ensures
