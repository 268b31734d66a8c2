use Rattle.planet_cli.proofs.Giving.{is_complete}
use Rattle.planet_cli.proofs.call_laws.complete.Goals as goal

pub returns : goal.returns
returns c = is_complete
