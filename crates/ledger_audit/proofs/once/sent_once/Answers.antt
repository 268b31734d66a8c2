use Rattle.ledger_audit.proofs.Sendings.{all_once}
use Rattle.ledger_audit.proofs.once.sent_once.Goals as goal

pub returns : goal.returns
returns c = all_once
