use Rattle.planet_cli.proofs.Giving.{is_own}
use Rattle.planet_cli.proofs.call_laws.own.Goals as goal

pub returns : goal.returns
returns c = is_own
