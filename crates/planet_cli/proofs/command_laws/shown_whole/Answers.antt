use Rattle.planet_commands.proofs.Showing.{frame_shown}
use Rattle.planet_cli.proofs.command_laws.shown_whole.Goals as goal

pub returns : goal.returns
returns c = frame_shown
