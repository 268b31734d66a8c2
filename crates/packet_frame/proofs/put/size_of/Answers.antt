use Rattle.std.proofs.Common.{arith}
use Rattle.packet_frame.proofs.Sizes.{chunk_small}
use Rattle.chunk_codec_spec.proofs.LengthLaws.{chunk_length}
use Rattle.packet_frame.proofs.put.size_of.Goals as goal

pub overflow_cast-result : goal.overflow_cast-result
overflow_cast-result c = grind (arith, chunk_small, chunk_length)

pub returns-clause-size : goal.returns-clause-size
returns-clause-size c = grind (arith, chunk_small, chunk_length)

pub returns-clause-small : goal.returns-clause-small
returns-clause-small c = grind (arith, chunk_small, chunk_length)
