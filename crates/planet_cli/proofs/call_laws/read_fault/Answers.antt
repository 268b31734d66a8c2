use Rattle.planet_cli.proofs.Explaining.{read_rose}
use Rattle.planet_cli.proofs.call_laws.read_fault.Goals as goal

pub returns : goal.returns
returns c = read_rose
