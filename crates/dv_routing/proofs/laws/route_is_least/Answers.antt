use Rattle.dv_routing.proofs.Best.{route_answer, route_own}
use Rattle.dv_routing.proofs.laws.route_is_least.Goals as goal

pub returns : goal.returns
returns c = record { other = route_answer; own = route_own }
