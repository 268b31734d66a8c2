use Rattle.net_world_spec.proofs.Reaching.{event_reaches}
use Rattle.net_world_spec.proofs.routes.events_reach.Goals as goal

pub returns : goal.returns
returns c = event_reaches
