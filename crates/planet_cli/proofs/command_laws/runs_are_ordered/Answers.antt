use Rattle.planet_cli.proofs.NodeRuns.{run_ordered}
use Rattle.planet_cli.proofs.command_laws.runs_are_ordered.Goals as goal

pub returns : goal.returns
returns c = run_ordered
