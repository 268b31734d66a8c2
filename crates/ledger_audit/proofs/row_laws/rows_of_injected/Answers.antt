use Rattle.ledger_audit.proofs.Ordering.{same_families}
use Rattle.ledger_audit.proofs.row_laws.rows_of_injected.Goals as goal

pub returns : goal.returns
returns c = same_families
