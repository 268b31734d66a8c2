use Rattle.planet_cli.proofs.NodeRuns.{node_keeps}
use Rattle.planet_cli.proofs.command_laws.served_keeps.Goals as goal

pub returns : goal.returns
returns c = node_keeps
