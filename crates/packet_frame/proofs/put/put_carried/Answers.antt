use Rattle.std.proofs.Common.{arith}
use Rattle.packet_frame.proofs.Sizes.{chunk_can}
use Rattle.packet_frame.proofs.put.put_carried.Goals as goal

pub put_chunk-requires-clause-kept : goal.put_chunk-requires-clause-kept
put_chunk-requires-clause-kept c = grind (arith, chunk_can)
