use Rattle.std.proofs.Common.{◌≡◌, ◌++◌}
use Rattle.std.specs.Prelude.{drop}
use Rattle.frag_chunks.specs.Gathers.{joined_pieces}
use Rattle.frag_chunks.proofs.holding.join_pieces.Given as goal

abbrev pub invariant-loop-slot : goal.invariant-loop-slot
invariant-loop-slot l = l.all ++ joined_pieces (drop l.slot-index l.slots) ≡ joined_pieces l.slots
