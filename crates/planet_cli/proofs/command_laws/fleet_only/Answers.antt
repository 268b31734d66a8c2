use Rattle.planet_cli.proofs.Fleets.{fleet_says}
use Rattle.planet_cli.proofs.command_laws.fleet_only.Goals as goal

pub returns : goal.returns
returns c = fleet_says
