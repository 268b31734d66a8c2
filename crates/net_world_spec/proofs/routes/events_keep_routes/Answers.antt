use Rattle.net_world_spec.proofs.Reaching.{event_keeps_routes}
use Rattle.net_world_spec.proofs.routes.events_keep_routes.Goals as goal

pub returns : goal.returns
returns c = event_keeps_routes
