use Rattle.planet_cli.proofs.Frames.{call_links}
use Rattle.planet_cli.proofs.call_laws.no_frames.Goals as goal

pub returns : goal.returns
returns c = call_links
