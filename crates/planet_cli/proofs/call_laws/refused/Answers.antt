use Rattle.planet_cli.proofs.Giving.{is_refused}
use Rattle.planet_cli.proofs.call_laws.refused.Goals as goal

pub returns : goal.returns
returns c = is_refused
