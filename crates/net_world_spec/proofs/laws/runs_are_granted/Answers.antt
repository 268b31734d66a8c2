use Rattle.net_world_spec.proofs.Giving.{opening_grants}
use Rattle.net_world_spec.proofs.laws.runs_are_granted.Goals as goal

pub returns : goal.returns
returns c = opening_grants
