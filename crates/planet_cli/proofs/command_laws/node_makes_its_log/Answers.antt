use Rattle.planet_cli.proofs.NodeFiles.{node_made}
use Rattle.planet_cli.proofs.command_laws.node_makes_its_log.Goals as goal

pub returns : goal.returns
returns c = node_made
