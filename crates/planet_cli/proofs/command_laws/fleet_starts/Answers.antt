use Rattle.planet_cli.proofs.Fleets.{fleet_begins}
use Rattle.planet_cli.proofs.command_laws.fleet_starts.Goals as goal

pub returns : goal.returns
returns c = fleet_begins
