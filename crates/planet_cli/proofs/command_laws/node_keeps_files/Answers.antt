use Rattle.planet_cli.proofs.NodeFiles.{node_others}
use Rattle.planet_cli.proofs.command_laws.node_keeps_files.Goals as goal

pub returns : goal.returns
returns c = node_others
