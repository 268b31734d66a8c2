use Rattle.std.proofs.Common.{rules, arith}
use Rattle.node_io.proofs.PieceLemmas.{left_after}
use Rattle.node_io.proofs.reading.Reading.next.Goals as goal

pub returns-clause-left : goal.returns-clause-left
returns-clause-left c =
    rw (← c.self.view_is) (left_after c.self.inside.bytes.items c.copy_from_slice.new.self _ c.self.inside.at c.min-count.result c.self.invariant (omega arith) (search (rules, c.copy_from_slice.ensures.after, c.deref.ensures.value)))
