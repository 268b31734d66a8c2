use Rattle.planet_cli.proofs.Fleets.{fleet_fronts}
use Rattle.planet_cli.proofs.command_laws.fleet_front.Goals as goal

pub returns : goal.returns
returns c = fleet_fronts
