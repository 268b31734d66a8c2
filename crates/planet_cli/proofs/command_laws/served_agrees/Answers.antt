use Rattle.planet_cli.proofs.NodeRuns.{node_agrees}
use Rattle.planet_cli.proofs.command_laws.served_agrees.Goals as goal

pub returns : goal.returns
returns c = node_agrees
