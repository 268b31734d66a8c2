use Rattle.std.proofs.Common.{arith}
use Rattle.node_files.proofs.ChunkLaws.{all_from, left_from, none_from}
use Rattle.node_files.proofs.chunk_words.chunk_of_bytes.Goals as goal

pub returns-then-bytes-at-clause-value : goal.returns-then-bytes-at-clause-value
returns-then-bytes-at-clause-value c =
    all_from c.args.bytes.now c.over-cursor.result c.get_chunk.new.c c.in-Ok.chunk c.over-cursor.ensures.at c.over-cursor.ensures.rest c.in-Ok.ensures.found
    (omega (arith, c.if-bytes-at.true, c.at.ensures.place))

pub returns-else-bytes-at-clause-value : goal.returns-else-bytes-at-clause-value
returns-else-bytes-at-clause-value c =
    left_from c.args.bytes.now c.over-cursor.result c.get_chunk.new.c c.in-Ok.chunk c.over-cursor.ensures.at c.over-cursor.ensures.rest c.in-Ok.ensures.found
    (omega (arith, c.if-bytes-at.false, c.at.ensures.place))

pub returns-in_ok-not_memory-in-Err-clause-value : goal.returns-in_ok-not_memory-in-Err-clause-value
returns-in_ok-not_memory-in-Err-clause-value c =
    none_from c.args.bytes.now c.over-cursor.result c.in-Err.fault c.over-cursor.ensures.at c.over-cursor.ensures.rest (λ i. omega (arith, c.type_inv.bytes i)) c.in_ok-not_memory-in-Err.ensures.ok c.in-Err.ensures.fault
