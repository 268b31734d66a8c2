use Rattle.net_world_spec.proofs.Reaching.{journeys_short}
use Rattle.net_world_spec.proofs.routes.journeys_are_short.Goals as goal

pub returns : goal.returns
returns c = journeys_short
