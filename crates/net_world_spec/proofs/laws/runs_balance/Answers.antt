use Rattle.net_world_spec.proofs.Handings.{opening_balances}
use Rattle.net_world_spec.proofs.laws.runs_balance.Goals as goal

pub returns : goal.returns
returns c = opening_balances
