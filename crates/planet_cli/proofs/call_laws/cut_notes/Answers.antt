use Rattle.planet_cli.proofs.GrowEnds.{cut_note}
use Rattle.planet_cli.proofs.call_laws.cut_notes.Goals as goal

pub returns : goal.returns
returns c = cut_note
