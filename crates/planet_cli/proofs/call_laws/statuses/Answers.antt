use Rattle.planet_cli.proofs.Frames.{call_statuses}
use Rattle.planet_cli.proofs.call_laws.statuses.Goals as goal

pub returns : goal.returns
returns c = call_statuses
