use Rattle.planet_cli.proofs.Auditing.{audit_asks}
use Rattle.planet_cli.proofs.command_laws.audit_asked.Goals as goal

pub returns : goal.returns
returns c = audit_asks
