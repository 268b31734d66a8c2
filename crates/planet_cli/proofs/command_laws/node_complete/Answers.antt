use Rattle.planet_cli.proofs.Serving.{node_is_complete}
use Rattle.planet_cli.proofs.command_laws.node_complete.Goals as goal

pub returns : goal.returns
returns c = node_is_complete
