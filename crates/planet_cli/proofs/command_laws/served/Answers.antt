use Rattle.planet_cli.proofs.Serving.{node_serves}
use Rattle.planet_cli.proofs.command_laws.served.Goals as goal

pub returns : goal.returns
returns c = node_serves
