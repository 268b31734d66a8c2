use Rattle.planet_cli.proofs.Frames.{call_starts}
use Rattle.planet_cli.proofs.call_laws.no_starts.Goals as goal

pub returns : goal.returns
returns c = call_starts
