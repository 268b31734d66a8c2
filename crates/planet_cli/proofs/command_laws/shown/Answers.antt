use Rattle.planet_cli.proofs.Showing.{show_written}
use Rattle.planet_cli.proofs.command_laws.shown.Goals as goal

pub returns : goal.returns
returns c = show_written
