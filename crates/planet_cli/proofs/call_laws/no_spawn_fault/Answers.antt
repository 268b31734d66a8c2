use Rattle.planet_cli.proofs.Causes.{cause_is_unspawned}
use Rattle.planet_cli.proofs.call_laws.no_spawn_fault.Goals as goal

pub returns : goal.returns
returns c = cause_is_unspawned
