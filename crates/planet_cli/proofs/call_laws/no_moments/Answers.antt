use Rattle.planet_cli.proofs.Frames.{call_times}
use Rattle.planet_cli.proofs.call_laws.no_moments.Goals as goal

pub returns : goal.returns
returns c = call_times
