use Rattle.planet_cli.proofs.NodeKeeping.{log_run_keeps}
use Rattle.planet_cli.proofs.command_laws.log_keeps.Goals as goal

pub returns : goal.returns
returns c = log_run_keeps
