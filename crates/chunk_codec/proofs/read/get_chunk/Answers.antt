use Rattle.std.proofs.Common.{refl}
use Rattle.std.proofs.lemmas.Result.{err_from_is_err_and}
use Rattle.chunk_codec_spec.specs.Spelling.{a_whole_chunk}
use Rattle.chunk_codec_spec.proofs.ValueLaws.{chunk_part_lawful}
use Rattle.chunk_codec.proofs.Wholes.{found_at_ok, only_at_ok, only_at_err, fault_at_err}
use Rattle.chunk_codec.proofs.read.get_chunk.Goals as goal

pub returns-clause-found : goal.returns-clause-found
returns-clause-found c =
    found_at_ok a_whole_chunk (chunk_part_lawful 3) (λ _. refl) c.args.c.now c.at-s.result c.at-s.ensures.front c.at-s.ensures.nodes c.fork.ensures.same c.fork.ensures.bytes _ c.chunk_of.new.s _ c.into_cursor.ensures c.in_ok-read.ensures

pub returns-clause-only : goal.returns-clause-only
returns-clause-only c =
    only_at_ok a_whole_chunk (chunk_part_lawful 3) (λ _. refl) c.args.c.now c.at-s.result c.at-s.ensures.front c.at-s.ensures.nodes c.fork.ensures.same _ c.chunk_of.new.s _ c.into_cursor.ensures c.in_ok-read.ensures

pub returns-in_err-read-clause-only : goal.returns-in_err-read-clause-only
returns-in_err-read-clause-only c =
    let p = err_from_is_err_and c.from_residual.result c.from_residual.ensures.1 in
    rw (p.1, p.2) (only_at_err a_whole_chunk (chunk_part_lawful 3) (λ _. refl) c.args.c.now c.at-s.result c.at-s.ensures.front c.at-s.ensures.nodes c.fork.ensures.same c.in_err-read.field-0.0 c.in_err-read.ensures)

pub returns-in_err-read-clause-fault : goal.returns-in_err-read-clause-fault
returns-in_err-read-clause-fault c =
    let p = err_from_is_err_and c.from_residual.result c.from_residual.ensures.1 in
    rw (p.1, p.2) (fault_at_err a_whole_chunk (chunk_part_lawful 3) (λ _. refl) c.args.c.now c.at-s.result c.at-s.ensures.front c.at-s.ensures.nodes c.fork.ensures.same c.in_err-read.field-0.0 c.in_err-read.ensures)
