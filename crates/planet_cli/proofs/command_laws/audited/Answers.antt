use Rattle.planet_cli.proofs.Auditing.{audit_writes}
use Rattle.planet_cli.proofs.command_laws.audited.Goals as goal

pub returns : goal.returns
returns c = audit_writes
