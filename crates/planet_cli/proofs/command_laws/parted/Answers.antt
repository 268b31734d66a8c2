use Rattle.planet_cli.proofs.Headline.{cut_writes}
use Rattle.planet_cli.proofs.command_laws.parted.Goals as goal

pub returns : goal.returns
returns c = cut_writes
