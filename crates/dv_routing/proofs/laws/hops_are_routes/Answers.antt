use Rattle.dv_routing.proofs.Hops.{hop_leads, known_hops}
use Rattle.dv_routing.proofs.laws.hops_are_routes.Goals as goal

pub returns : goal.returns
returns c = record { to = hop_leads; known = known_hops }
