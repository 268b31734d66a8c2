use Rattle.planet_cli.proofs.Showing.{show_found}
use Rattle.planet_cli.proofs.command_laws.shown_only.Goals as goal

pub returns : goal.returns
returns c = show_found
