use Rattle.planet_cli.proofs.Frames.{call_hears}
use Rattle.planet_cli.proofs.call_laws.no_arrivals.Goals as goal

pub returns : goal.returns
returns c = call_hears
