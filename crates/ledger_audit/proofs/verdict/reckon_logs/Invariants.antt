use Rattle.std.proofs.Common.{◌≡◌, map, take}
use Rattle.ledger_audit.specs.Pasts.{IsReckoned, logged_of}
use Rattle.ledger_audit.proofs.verdict.reckon_logs.Given as goal

abbrev pub invariant-loop-log : goal.invariant-loop-log
invariant-loop-log l = record {
  number : l.number ≡ l.log-index;
  reckoned : IsReckoned l.links (map logged_of (take l.log-index l.logs)) l.reckoning;
}
