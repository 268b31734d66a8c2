use Rattle.reliable_ports_world.specs.Visits.{data_allowed}
use Rattle.reliable_ports_world.proofs.Worlds.{event_known}
use Rattle.reliable_ports_world.proofs.nodes.events_stay_known.Goals as goal

pub returns : goal.returns
returns c offer dest seq body w e closed q k = event_known (data_allowed offer dest seq body) closed w e q k
