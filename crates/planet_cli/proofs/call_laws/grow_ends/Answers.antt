use Rattle.planet_cli.proofs.GrowEnds.{grow_so}
use Rattle.planet_cli.proofs.call_laws.grow_ends.Goals as goal

pub returns : goal.returns
returns c = grow_so
