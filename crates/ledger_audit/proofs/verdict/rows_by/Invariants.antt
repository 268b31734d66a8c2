use Rattle.std.proofs.Common.{◌≡◌, map, take}
use Rattle.ledger_audit.specs.Ledgers.{by_hosts, row_in}
use Rattle.ledger_audit.proofs.verdict.rows_by.Given as goal

abbrev pub invariant-loop-host : goal.invariant-loop-host
invariant-loop-host l = l.rows ≡ map (row_in l.book) (by_hosts (take l.host-index l.hosts) l.families)
