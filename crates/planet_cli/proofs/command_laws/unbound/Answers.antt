use Rattle.planet_cli.proofs.NodeFiles.{node_unbound}
use Rattle.planet_cli.proofs.command_laws.unbound.Goals as goal

pub returns : goal.returns
returns c = node_unbound
