use Rattle.planet_cli.proofs.Serving.{none_kept}
use Rattle.planet_cli.proofs.call_laws.unserved.Goals as goal

pub returns : goal.returns
returns c = none_kept
