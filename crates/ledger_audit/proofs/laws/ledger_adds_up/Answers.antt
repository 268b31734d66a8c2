use Rattle.std.proofs.Common.{arith, []}
use Rattle.ledger_audit.specs.Audits.{all_accepted, all_sent, misfit}
use Rattle.ledger_audit.proofs.Multisets.{verdict_only}
use Rattle.ledger_audit.proofs.Balances.{adds_up}
use Rattle.ledger_audit.proofs.laws.ledger_adds_up.Goals as goal

pub returns : goal.returns
unfolding misfit
returns c f links logs b r e = adds_up f links logs b r (λ k. omega (arith, verdict_only (all_sent logs) [] (all_accepted links 0 logs) e (λ d. omega arith) k))
