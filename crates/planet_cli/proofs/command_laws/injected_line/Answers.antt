use Rattle.planet_cli.proofs.Asking.{ask_writes}
use Rattle.planet_cli.proofs.command_laws.injected_line.Goals as goal

pub returns : goal.returns
returns c = ask_writes
