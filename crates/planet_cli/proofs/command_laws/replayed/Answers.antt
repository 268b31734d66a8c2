use Rattle.planet_cli.proofs.Headline.{replay_writes}
use Rattle.planet_cli.proofs.command_laws.replayed.Goals as goal

pub returns : goal.returns
returns c = replay_writes
