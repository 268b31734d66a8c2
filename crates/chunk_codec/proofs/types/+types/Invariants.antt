use Rattle.std.proofs.Common.{◌≡◌, ◌+◌, ◌*◌, ◌-◌}
use Rattle.containers.specs.Reading.{many}
use Rattle.containers.proofs.ReadingLists.{with_front}
use Rattle.chunk_codec.specs.Reading.{type_at}
use Rattle.chunk_codec.proofs.types.+types.Given as goal

abbrev pub decreases-type_of : goal.decreases-type_of
decreases-type_of l = 3 * l.room

abbrev pub decreases-type_with_tag : goal.decreases-type_with_tag
decreases-type_with_tag l = 3 * l.room - 1

abbrev pub decreases-types_of : goal.decreases-types_of
decreases-types_of l = 3 * l.room + 1

abbrev pub invariant-types_of-loop-i : goal.invariant-types_of-loop-i
invariant-types_of-loop-i l = with_front l.types (many (type_at l.room) (l.count - l._i) l.s) ≡ many (type_at l.room) l.count l.fn.s
