use Rattle.reliable_ports_world.proofs.Serving.{registry_serves}
use Rattle.reliable_ports_world.proofs.known_laws.registry_serves.Goals as goal

pub returns : goal.returns
returns c = registry_serves
