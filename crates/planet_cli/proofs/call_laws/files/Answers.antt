use Rattle.planet_cli.proofs.Frames.{call_holds}
use Rattle.planet_cli.proofs.call_laws.files.Goals as goal

pub returns : goal.returns
returns c = call_holds
