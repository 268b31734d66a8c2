use Rattle.std.proofs.Common.{◌≡◌, ◌++◌, drop}
use Rattle.std.specs.List.{flat_map}
use Rattle.trace_chart_picture.specs.Pictures.{row_text}
use Rattle.trace_chart_picture.proofs.ledger.put_rows.Given as goal

abbrev pub invariant-loop-row : goal.invariant-loop-row
invariant-loop-row l = l.out ++ flat_map row_text (drop l.row-index l.rows) ≡ l.initial.out ++ flat_map row_text l.rows
