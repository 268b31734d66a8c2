use Rattle.planet_cli.proofs.Fleets.{fleet_waits}
use Rattle.planet_cli.proofs.command_laws.waited.Goals as goal

pub returns : goal.returns
returns c = fleet_waits
