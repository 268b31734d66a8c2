use Rattle.planet_cli.proofs.NodeRuns.{log_ordered}
use Rattle.planet_cli.proofs.command_laws.logs_are_ordered.Goals as goal

pub returns : goal.returns
returns c = log_ordered
