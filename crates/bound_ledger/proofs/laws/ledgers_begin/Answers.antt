use Rattle.bound_ledger.proofs.LineLaws.{nothing_stands}
use Rattle.bound_ledger.proofs.laws.ledgers_begin.Goals as goal

pub returns : goal.returns
returns c = nothing_stands
