use Rattle.std.proofs.Common.{arith}
use Rattle.std.proofs.lemmas.Result.{err_from_is_err_and}
use Rattle.packet_frame.proofs.Carries.{chunk_refused, chunk_read}
use Rattle.packet_frame.proofs.get.chunk_of.Goals as goal

pub returns-in_err-get_chunk : goal.returns-in_err-get_chunk
returns-in_err-get_chunk c =
    let p = err_from_is_err_and c.from_residual.result c.from_residual.ensures.1 in
    rw (p.1, p.2) (chunk_refused c.args.c.now c.in_err-get_chunk.field-0.0 c.in_err-get_chunk.ensures.fault)

pub returns : goal.returns
returns c = grind (arith, chunk_read, chunk_refused)
