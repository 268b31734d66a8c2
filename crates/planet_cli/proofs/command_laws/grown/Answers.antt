use Rattle.planet_cli.proofs.Asking.{grow_writes}
use Rattle.planet_cli.proofs.command_laws.grown.Goals as goal

pub returns : goal.returns
returns c = grow_writes
