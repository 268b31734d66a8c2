use Rattle.std.proofs.Common.{◌≡◌, ◌+◌}
use Rattle.std.specs.Prelude.{drop}
use Rattle.std.specs.Option.{option_map}
use Rattle.frag_chunks.specs.Places.{position}
use Rattle.frag_chunks.proofs.gather.position.Given as goal

abbrev pub invariant-loop-i : goal.invariant-loop-i
invariant-loop-i l = option_map (λ j. j + l.i) (position l.given.key (drop l.i l.entries)) ≡ position l.given.key l.entries
