use Rattle.std.proofs.Common.{take}
use Rattle.bound_ledger.specs.Counting.{Granted}
use Rattle.bound_ledger.proofs.counting.grant_lines.Given as goal

abbrev pub invariant-loop-line : goal.invariant-loop-line
invariant-loop-line l = Granted (take l.line-index l.lines) l.initial.ledger l.ledger
