use Rattle.planet_cli.proofs.Frames.{call_makes}
use Rattle.planet_cli.proofs.call_laws.made.Goals as goal

pub returns : goal.returns
returns c = call_makes
