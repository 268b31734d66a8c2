use Rattle.std.proofs.Common.{◌≡◌, ◌++◌, map, take}
use Rattle.std.specs.List.{filter}
use Rattle.ledger_audit.specs.Ledgers.{is_from, row_in}
use Rattle.ledger_audit.proofs.verdict.add_rows.Given as goal

abbrev pub invariant-loop-family : goal.invariant-loop-family
invariant-loop-family l = l.rows ≡ l.initial.rows ++ map (row_in l.book) (filter (is_from l.host) (take l.family-index l.families))
