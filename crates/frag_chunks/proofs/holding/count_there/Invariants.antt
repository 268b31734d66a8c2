use Rattle.std.proofs.Common.{◌≡◌, ◌+◌}
use Rattle.std.specs.Prelude.{drop}
use Rattle.frag_chunks.specs.Gathers.{filled_parts}
use Rattle.frag_chunks.proofs.holding.count_there.Given as goal

abbrev pub invariant-loop-i : goal.invariant-loop-i
invariant-loop-i l = l.count + filled_parts (drop l.i l.slots) ≡ filled_parts l.slots
