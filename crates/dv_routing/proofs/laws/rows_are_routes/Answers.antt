use Rattle.dv_routing.proofs.Rows.{rows_routes}
use Rattle.dv_routing.proofs.laws.rows_are_routes.Goals as goal

pub returns : goal.returns
returns c = rows_routes
