use Rattle.planet_cli.proofs.FleetEnds.{fleet_stopped}
use Rattle.planet_cli.proofs.call_laws.fleet_stops.Goals as goal

pub returns : goal.returns
returns c = fleet_stopped
