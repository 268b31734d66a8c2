use Rattle.net_world_spec.proofs.Balance.{event_balances}
use Rattle.net_world_spec.proofs.laws.events_balance.Goals as goal

pub returns : goal.returns
returns c = event_balances
