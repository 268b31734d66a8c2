use Rattle.planet_cli.proofs.Giving.{is_noted}
use Rattle.planet_cli.proofs.call_laws.note.Goals as goal

pub returns : goal.returns
returns c = is_noted
