use Rattle.net_world_spec.proofs.Wires.{opening_once}
use Rattle.net_world_spec.proofs.laws.numbers_go_once.Goals as goal

pub returns : goal.returns
returns c = opening_once
