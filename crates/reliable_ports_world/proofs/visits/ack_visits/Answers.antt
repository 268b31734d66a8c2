use Rattle.std.proofs.Common.{refl}
use Rattle.reliable_ports_world.specs.Visits.{ack_allowed}
use Rattle.reliable_ports_world.proofs.Closed.{ack_closed}
use Rattle.reliable_ports_world.proofs.visits.ack_visits.Goals as goal

pub returns : goal.returns
returns c offer dest next s good serves = ack_closed (ack_allowed offer dest next) dest next refl serves.here serves.purse serves.notes s good
