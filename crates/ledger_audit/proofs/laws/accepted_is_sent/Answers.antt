use Rattle.std.proofs.Common.{arith, []}
use Rattle.ledger_audit.specs.Audits.{all_accepted, all_sent, misfit}
use Rattle.ledger_audit.proofs.Multisets.{verdict_only, verdict_always}
use Rattle.ledger_audit.proofs.laws.accepted_is_sent.Goals as goal

pub returns : goal.returns
unfolding misfit
returns c links logs = (
  λ e k. omega (arith, verdict_only (all_sent logs) [] (all_accepted links 0 logs) e (λ d. omega arith) k),
  λ h. verdict_always (all_sent logs) [] (all_accepted links 0 logs) (λ k. omega (arith, h k)),
)
