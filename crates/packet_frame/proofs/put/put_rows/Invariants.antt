use Rattle.std.proofs.Common.{true}
use Rattle.packet_frame.specs.Bytes.{row_bytes}
use Rattle.chunk_codec.proofs.Puts.{Written}
use Rattle.packet_frame.proofs.put.put_rows.Given as goal

abbrev pub invariant-loop-r : goal.invariant-loop-r
invariant-loop-r l = Written row_bytes (λ _. true) l.rows l.r-index l.fn.out.bytes l.fn.out.room l.out.bytes l.out.room
