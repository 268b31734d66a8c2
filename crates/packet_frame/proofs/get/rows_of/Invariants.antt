use Rattle.std.proofs.Common.{◌≡◌, ◌-◌, None}
use Rattle.chunk_codec_spec.specs.Spelling.{from_front}
use Rattle.containers.proofs.ReadingLists.{with_front}
use Rattle.packet_frame.specs.Fields.{rows_from}
use Rattle.packet_frame.proofs.get.rows_of.Given as goal

abbrev pub invariant-loop-i : goal.invariant-loop-i
invariant-loop-i l = with_front l.rows (rows_from l.before (l.count - l._i) (from_front l.c)) ≡ rows_from None l.count (from_front l.fn.c)
