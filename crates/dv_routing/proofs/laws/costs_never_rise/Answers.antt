use Rattle.dv_routing.proofs.Rises.{cost_rises}
use Rattle.dv_routing.proofs.laws.costs_never_rise.Goals as goal

pub returns : goal.returns
returns c = cost_rises
