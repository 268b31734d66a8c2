use Rattle.std.proofs.Common.{arith}
use Rattle.packet_frame.proofs.Carried.{chunk_is_formed, chunk_is_full, chunk_is_small}
use Rattle.packet_frame.proofs.checked.typed_chunk.Goals as goal

pub check_chunk-requires-clause-formed : goal.check_chunk-requires-clause-formed
check_chunk-requires-clause-formed c = grind (arith, chunk_is_formed, chunk_is_full, chunk_is_small)

pub check_chunk-requires-clause-full : goal.check_chunk-requires-clause-full
check_chunk-requires-clause-full c = grind (arith, chunk_is_formed, chunk_is_full, chunk_is_small)

pub check_chunk-requires-clause-small : goal.check_chunk-requires-clause-small
check_chunk-requires-clause-small c = grind (arith, chunk_is_formed, chunk_is_full, chunk_is_small)
