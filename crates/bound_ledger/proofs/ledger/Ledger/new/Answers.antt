use Rattle.std.proofs.Common.{ap}
use Rattle.bound_ledger.specs.Keys.{rows_at}
use Rattle.bound_ledger.proofs.ledger.Ledger.new.Goals as goal

pub returns : goal.returns
unfolding rows_at
returns c = ap rows_at c.new.ensures.empty
