use Rattle.net_world_spec.proofs.Giving.{opening_bounded}
use Rattle.net_world_spec.proofs.laws.runs_are_bounded.Goals as goal

pub returns : goal.returns
returns c = opening_bounded
