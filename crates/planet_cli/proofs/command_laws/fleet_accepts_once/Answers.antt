use Rattle.planet_cli.proofs.Auditing.{audit_once}
use Rattle.planet_cli.proofs.command_laws.fleet_accepts_once.Goals as goal

pub returns : goal.returns
returns c = audit_once
