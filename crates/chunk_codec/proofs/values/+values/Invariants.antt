use Rattle.std.proofs.Common.{◌≡◌, ◌+◌, ◌*◌, ◌-◌}
use Rattle.containers.specs.Reading.{many}
use Rattle.containers.proofs.ReadingLists.{with_front}
use Rattle.chunk_codec.specs.Reading.{value_at}
use Rattle.chunk_codec.proofs.values.+values.Given as goal

abbrev pub decreases-value_of : goal.decreases-value_of
decreases-value_of l = 64 * l.nest + 4 * l.room + 1

abbrev pub decreases-value_with_tag : goal.decreases-value_with_tag
decreases-value_with_tag l = 64 * l.nest + 4 * l.room

abbrev pub decreases-chunk_behind : goal.decreases-chunk_behind
decreases-chunk_behind l = 64 * l.nest - 1

abbrev pub decreases-list_behind : goal.decreases-list_behind
decreases-list_behind l = 64 * l.nest + 4 * l.room - 1

abbrev pub decreases-tuple_behind : goal.decreases-tuple_behind
decreases-tuple_behind l = 64 * l.nest + 4 * l.room - 1

abbrev pub decreases-values_of : goal.decreases-values_of
decreases-values_of l = 64 * l.nest + 4 * l.room + 2

abbrev pub decreases-args_of : goal.decreases-args_of
decreases-args_of l = 64 * l.nest + 35

abbrev pub decreases-fields_of : goal.decreases-fields_of
decreases-fields_of l = 64 * l.nest + 36

abbrev pub decreases-chunk_of : goal.decreases-chunk_of
decreases-chunk_of l = 64 * l.nest + 37

abbrev pub invariant-values_of-loop-i : goal.invariant-values_of-loop-i
invariant-values_of-loop-i l = with_front l.values (many (value_at l.nest l.room) (l.count - l._i) l.s) ≡ many (value_at l.nest l.room) l.count l.fn.s
