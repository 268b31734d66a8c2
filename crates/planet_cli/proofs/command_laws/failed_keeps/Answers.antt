use Rattle.planet_cli.proofs.NodeRuns.{node_up_to}
use Rattle.planet_cli.proofs.command_laws.failed_keeps.Goals as goal

pub returns : goal.returns
returns c = node_up_to
