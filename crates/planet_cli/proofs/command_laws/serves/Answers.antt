use Rattle.planet_cli.proofs.Serving.{node_fronts}
use Rattle.planet_cli.proofs.command_laws.serves.Goals as goal

pub returns : goal.returns
returns c = node_fronts
