use Rattle.std.proofs.Common.{refl}
use Rattle.chunk_codec_spec.specs.Programs.{program_part}
use Rattle.chunk_codec_spec.proofs.ProgramLaws.{program_lawful}
use Rattle.chunk_codec_spec.proofs.WholeLaws.{one_spelling_by, at_most_one, spelled_or_fault, spelled_no_fault}
use Rattle.chunk_codec.proofs.Wholes.{again_by}
use Rattle.chunk_codec.proofs.laws.program_laws.Goals as goal

pub returns : goal.returns
returns c = record {
  one_spelling = one_spelling_by program_part (program_lawful) (λ _. refl);
  again = again_by program_part;
  one_fault = at_most_one program_part (program_lawful) (λ _. refl);
  either = spelled_or_fault program_part (program_lawful) (λ _. refl);
  never_both = spelled_no_fault program_part (program_lawful) (λ _. refl);
}
