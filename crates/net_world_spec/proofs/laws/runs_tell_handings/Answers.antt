use Rattle.net_world_spec.proofs.Handings.{opening_tells, opening_leaves}
use Rattle.net_world_spec.proofs.laws.runs_tell_handings.Goals as goal

pub returns : goal.returns
returns c = record { past = opening_tells; left = opening_leaves }
