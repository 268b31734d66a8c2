use Rattle.planet_cli.proofs.Fleets.{fleet_runs}
use Rattle.planet_cli.proofs.command_laws.fleet.Goals as goal

pub returns : goal.returns
returns c = fleet_runs
