use Rattle.planet_cli.proofs.Giving.{is_silent}
use Rattle.planet_cli.proofs.call_laws.silent.Goals as goal

pub returns : goal.returns
returns c = is_silent
