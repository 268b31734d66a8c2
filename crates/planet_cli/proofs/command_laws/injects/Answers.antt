use Rattle.planet_cli.proofs.Asking.{ask_bounds}
use Rattle.planet_cli.proofs.command_laws.injects.Goals as goal

pub returns : goal.returns
returns c = ask_bounds
