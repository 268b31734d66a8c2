use Rattle.planet_cli.proofs.Headline.{gather_writes}
use Rattle.planet_cli.proofs.command_laws.gathered.Goals as goal

pub returns : goal.returns
returns c = gather_writes
