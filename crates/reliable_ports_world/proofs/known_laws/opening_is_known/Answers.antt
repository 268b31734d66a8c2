use Rattle.reliable_ports_world.proofs.Opening.{opening_known}
use Rattle.reliable_ports_world.proofs.known_laws.opening_is_known.Goals as goal

pub returns : goal.returns
returns c = opening_known
