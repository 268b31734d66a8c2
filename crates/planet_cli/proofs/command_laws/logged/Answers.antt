use Rattle.planet_cli.proofs.Headline.{log_writes}
use Rattle.planet_cli.proofs.command_laws.logged.Goals as goal

pub returns : goal.returns
returns c = log_writes
