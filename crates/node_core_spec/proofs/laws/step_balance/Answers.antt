use Rattle.node_core_spec.proofs.NodeBalance.{step_balances}
use Rattle.node_core_spec.proofs.laws.step_balance.Goals as goal

pub returns : goal.returns
returns c = step_balances
