use Rattle.net_world_spec.proofs.Reaching.{reached_hold}
use Rattle.net_world_spec.proofs.routes.routes_hold.Goals as goal

pub returns : goal.returns
returns c = reached_hold
