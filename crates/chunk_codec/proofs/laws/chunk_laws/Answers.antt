use Rattle.std.proofs.Common.{refl}
use Rattle.chunk_codec_spec.specs.Spelling.{a_whole_chunk}
use Rattle.chunk_codec_spec.proofs.ValueLaws.{chunk_part_lawful}
use Rattle.chunk_codec_spec.proofs.WholeLaws.{one_spelling_by, at_most_one, spelled_or_fault, spelled_no_fault}
use Rattle.chunk_codec.proofs.Wholes.{again_by}
use Rattle.chunk_codec.proofs.laws.chunk_laws.Goals as goal

pub returns : goal.returns
returns c = record {
  one_spelling = one_spelling_by a_whole_chunk (chunk_part_lawful 3) (λ _. refl);
  again = again_by a_whole_chunk;
  one_fault = at_most_one a_whole_chunk (chunk_part_lawful 3) (λ _. refl);
  either = spelled_or_fault a_whole_chunk (chunk_part_lawful 3) (λ _. refl);
  never_both = spelled_no_fault a_whole_chunk (chunk_part_lawful 3) (λ _. refl);
}
