use Rattle.planet_cli.proofs.Fleets.{fleet_is_complete}
use Rattle.planet_cli.proofs.command_laws.fleet_complete.Goals as goal

pub returns : goal.returns
returns c = fleet_is_complete
