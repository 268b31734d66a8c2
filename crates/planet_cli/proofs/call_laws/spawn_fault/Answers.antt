use Rattle.planet_cli.proofs.Explaining.{spawn_rose}
use Rattle.planet_cli.proofs.call_laws.spawn_fault.Goals as goal

pub returns : goal.returns
returns c = spawn_rose
