use Rattle.std.proofs.Common.{◌≡◌, ◌++◌, take}
use Rattle.ledger_audit.specs.Texts.{rows_text}
use Rattle.ledger_audit.proofs.text.put_rows.Given as goal

abbrev pub invariant-loop-row : goal.invariant-loop-row
invariant-loop-row l = l.out ≡ l.initial.out ++ rows_text (take l.row-index l.rows)
