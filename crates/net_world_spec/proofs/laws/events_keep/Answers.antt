use Rattle.net_world_spec.proofs.Fitting.{event_sound}
use Rattle.net_world_spec.proofs.laws.events_keep.Goals as goal

pub returns : goal.returns
returns c = event_sound
