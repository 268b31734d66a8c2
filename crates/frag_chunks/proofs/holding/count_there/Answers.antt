use Rattle.std.proofs.Common.{arith}
use Rattle.frag_chunks.proofs.Holdings.{filled_few}
use Rattle.frag_chunks.proofs.holding.count_there.Goals as goal

pub overflow_add-count : goal.overflow_add-count
overflow_add-count c = omega (arith, c.loop-i.invariant, filled_few c.args.slots.now, c.requires)
