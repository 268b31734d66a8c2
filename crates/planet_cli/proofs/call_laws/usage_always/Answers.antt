use Rattle.planet_cli.proofs.Giving.{usage_given}
use Rattle.planet_cli.proofs.call_laws.usage_always.Goals as goal

pub returns : goal.returns
returns c = usage_given
