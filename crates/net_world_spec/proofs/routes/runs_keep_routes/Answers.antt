use Rattle.net_world_spec.proofs.Reaching.{run_keeps_routes}
use Rattle.net_world_spec.proofs.routes.runs_keep_routes.Goals as goal

pub returns : goal.returns
returns c = run_keeps_routes
