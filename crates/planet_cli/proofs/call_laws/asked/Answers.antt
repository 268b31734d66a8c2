use Rattle.planet_cli.proofs.Frames.{call_asks}
use Rattle.planet_cli.proofs.call_laws.asked.Goals as goal

pub returns : goal.returns
returns c = call_asks
