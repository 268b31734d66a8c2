use Rattle.planet_cli.proofs.Causes.{unfailing}
use Rattle.planet_cli.proofs.call_laws.no_nodes_failed.Goals as goal

pub returns : goal.returns
returns c = unfailing
