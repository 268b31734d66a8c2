use Rattle.planet_cli.proofs.FleetEnds.{fleet_written}
use Rattle.planet_cli.proofs.call_laws.fleet_lines.Goals as goal

pub returns : goal.returns
returns c = fleet_written
