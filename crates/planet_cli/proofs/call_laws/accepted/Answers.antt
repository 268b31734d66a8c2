use Rattle.planet_cli.proofs.Giving.{is_accepted}
use Rattle.planet_cli.proofs.call_laws.accepted.Goals as goal

pub returns : goal.returns
returns c = is_accepted
