use Rattle.node_serve.proofs.FrameLaws.{frames_of_run}
use Rattle.node_serve.proofs.laws.frames_again.Goals as goal

pub returns : goal.returns
returns c = frames_of_run
