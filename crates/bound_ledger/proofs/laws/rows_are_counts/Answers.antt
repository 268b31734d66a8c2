use Rattle.bound_ledger.proofs.ByFamily.{standing_rows}
use Rattle.bound_ledger.proofs.laws.rows_are_counts.Goals as goal

pub returns : goal.returns
returns c = standing_rows
