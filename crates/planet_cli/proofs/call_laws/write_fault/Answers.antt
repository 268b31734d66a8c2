use Rattle.planet_cli.proofs.Explaining.{write_rose}
use Rattle.planet_cli.proofs.call_laws.write_fault.Goals as goal

pub returns : goal.returns
returns c = write_rose
