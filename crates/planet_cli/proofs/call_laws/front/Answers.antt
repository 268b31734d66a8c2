use Rattle.planet_cli.proofs.Giving.{is_begun}
use Rattle.planet_cli.proofs.call_laws.front.Goals as goal

pub returns : goal.returns
returns c = is_begun
