use Rattle.planet_cli.proofs.Auditing.{audit_adds}
use Rattle.planet_cli.proofs.command_laws.fleet_adds_up.Goals as goal

pub returns : goal.returns
returns c = audit_adds
