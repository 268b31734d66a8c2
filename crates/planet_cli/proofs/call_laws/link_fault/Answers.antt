use Rattle.planet_cli.proofs.Explaining.{link_rose}
use Rattle.planet_cli.proofs.call_laws.link_fault.Goals as goal

pub returns : goal.returns
returns c = link_rose
