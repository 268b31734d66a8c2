use Rattle.ledger_audit.proofs.VerdictLaws.{yes_sent}
use Rattle.ledger_audit.proofs.verdict_laws.yes_is_sent.Goals as goal

pub returns : goal.returns
returns c = yes_sent
