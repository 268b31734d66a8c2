use Rattle.planet_cli.proofs.Explaining.{call_explains}
use Rattle.planet_cli.proofs.call_laws.explained.Goals as goal

pub returns : goal.returns
returns c q cause old new n m = call_explains old new n m q cause
