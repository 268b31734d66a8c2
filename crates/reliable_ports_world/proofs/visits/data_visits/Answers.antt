use Rattle.std.proofs.Common.{refl}
use Rattle.reliable_ports_world.specs.Visits.{data_allowed}
use Rattle.reliable_ports_world.proofs.Closed.{data_closed}
use Rattle.reliable_ports_world.proofs.visits.data_visits.Goals as goal

pub returns : goal.returns
returns c offer dest seq body s good serves = data_closed (data_allowed offer dest seq body) dest seq body refl serves.here serves.purse serves.notes s good
