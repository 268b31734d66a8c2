use Rattle.net_world_spec.proofs.AllVisits.{event_has}
use Rattle.net_world_spec.proofs.Visits.{event_ends}
use Rattle.net_world_spec.proofs.laws.visits_end_well.Goals as goal

pub returns : goal.returns
returns c = record { all = event_has; well = event_ends }
