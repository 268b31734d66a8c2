use Rattle.planet_cli.proofs.Giving.{is_written}
use Rattle.planet_cli.proofs.call_laws.whole.Goals as goal

pub returns : goal.returns
returns c = is_written
