use Rattle.planet_cli.proofs.Causes.{cause_is_unlinked}
use Rattle.planet_cli.proofs.call_laws.no_link_fault.Goals as goal

pub returns : goal.returns
returns c = cause_is_unlinked
