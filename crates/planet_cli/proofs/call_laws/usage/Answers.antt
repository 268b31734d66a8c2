use Rattle.planet_cli.proofs.Giving.{usage_asks}
use Rattle.planet_cli.proofs.call_laws.usage.Goals as goal

pub returns : goal.returns
returns c = usage_asks
