use Rattle.reliable_ports_world.proofs.Promises.{keeps_purses}
use Rattle.reliable_ports_world.proofs.laws.ports_keep_purses.Goals as goal

pub returns : goal.returns
returns c = keeps_purses
