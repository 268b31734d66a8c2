use Rattle.std.proofs.Common.{ap}
use Rattle.packet_frame.specs.Decoding.{unstamped_frame}
use Rattle.packet_frame.proofs.OneAnswer.{accepts_is}
use Rattle.planet_commands.proofs.ShowLemmas.{first_refused}
use Rattle.planet_commands.proofs.show.first_framed.Goals as goal

pub returns-in-Ok : goal.returns-in-Ok
returns-in-Ok c = ap unstamped_frame (accepts_is _ _ c.in-Ok.ensures.found)

pub returns-in-Err : goal.returns-in-Err
returns-in-Err c = first_refused _ _ _ c.requires c.in-Err.ensures.fault c.from.ensures
