use Rattle.fleet_run.proofs.Prefixes.{fleet_prefix}
use Rattle.fleet_run.proofs.laws.lines_are_a_prefix.Goals as goal

pub returns : goal.returns
returns c = fleet_prefix
