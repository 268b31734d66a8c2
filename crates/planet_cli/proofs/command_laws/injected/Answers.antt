use Rattle.planet_cli.proofs.Asking.{ask_sends}
use Rattle.planet_cli.proofs.command_laws.injected.Goals as goal

pub returns : goal.returns
returns c = ask_sends
