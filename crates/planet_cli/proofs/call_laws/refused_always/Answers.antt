use Rattle.planet_cli.proofs.Giving.{is_told}
use Rattle.planet_cli.proofs.call_laws.refused_always.Goals as goal

pub returns : goal.returns
returns c = is_told
