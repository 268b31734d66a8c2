use Rattle.std.proofs.Common.{List, []}
use Rattle.ledger_audit.specs.Crossings.{Crossing}
use Rattle.ledger_audit.specs.Tallies.{AreFew, Tallied}
use Rattle.ledger_audit.specs.Pasts.{arrivals_of}
use Rattle.ledger_audit.proofs.JudgeLaws.{Judging}
use Rattle.ledger_audit.proofs.judging.first_over_of.Given as goal

abbrev pub invariant-loop-arrival : goal.invariant-loop-arrival
invariant-loop-arrival l = (sent : List Crossing) → AreFew sent (arrivals_of l.arrived) → Tallied sent [] l.initial.tallies → Judging sent l.arrived l.arrival-index l.tallies
