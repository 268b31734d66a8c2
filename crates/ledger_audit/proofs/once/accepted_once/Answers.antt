use Rattle.ledger_audit.proofs.Sendings.{none_twice}
use Rattle.ledger_audit.proofs.once.accepted_once.Goals as goal

pub returns : goal.returns
returns c = none_twice
