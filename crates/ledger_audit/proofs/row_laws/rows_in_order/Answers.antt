use Rattle.ledger_audit.proofs.Ordering.{in_order}
use Rattle.ledger_audit.proofs.row_laws.rows_in_order.Goals as goal

pub returns : goal.returns
returns c = in_order
