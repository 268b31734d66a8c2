use Rattle.planet_cli.proofs.Asking.{grow_is_whole}
use Rattle.planet_cli.proofs.command_laws.grown_whole.Goals as goal

pub returns : goal.returns
returns c = grow_is_whole
