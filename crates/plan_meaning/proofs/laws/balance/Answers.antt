use Rattle.plan_meaning.proofs.Even.{balance, visit_balance}
use Rattle.plan_meaning.proofs.laws.balance.Goals as goal

pub returns : goal.returns
returns c = record { parts = balance; visits = visit_balance }
