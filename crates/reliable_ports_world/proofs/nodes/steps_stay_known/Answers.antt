use Rattle.reliable_ports_world.specs.Visits.{data_allowed}
use Rattle.reliable_ports_world.proofs.KnownNodes.{packet_known}
use Rattle.reliable_ports_world.proofs.nodes.steps_stay_known.Goals as goal

pub returns : goal.returns
returns c offer dest seq body node d p closed k o n = packet_known (data_allowed offer dest seq body) closed node d p (k, o) n
