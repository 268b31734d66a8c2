use Rattle.std.proofs.Common.{take}
use Rattle.bound_ledger.specs.Counting.{Moved}
use Rattle.bound_ledger.proofs.counting.move_lines.Given as goal

abbrev pub invariant-loop-line : goal.invariant-loop-line
invariant-loop-line l = Moved l.late (take l.line-index l.lines) l.initial.ledger l.ledger
