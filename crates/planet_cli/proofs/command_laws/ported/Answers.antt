use Rattle.planet_cli.proofs.Ports.{ports_write}
use Rattle.planet_cli.proofs.command_laws.ported.Goals as goal

pub returns : goal.returns
returns c = ports_write
