use Rattle.std.proofs.Common.{◌++◌, take}
use Rattle.bound_ledger.specs.Rows.{OneEach}
use Rattle.trace_text.specs.Printed.{all_printed}
use Rattle.net_world.specs.Printing.{IsWaiting}
use Rattle.net_world.proofs.runs.write_rows.Given as goal

abbrev pub invariant-loop-i : goal.invariant-loop-i
invariant-loop-i g l = IsWaiting (g.K.Sink.state l.initial.out) (g.K.Sink.state l.out) l.waiting (l.fn.text ++ all_printed (take l.i l.ledger)) × OneEach l.ledger
