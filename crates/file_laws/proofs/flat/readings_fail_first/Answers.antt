use Rattle.std.proofs.Common.{refl}
use Rattle.chunk_codec_spec.specs.Programs.{program_part}
use Rattle.chunk_codec_spec.specs.Spelling.{a_whole_type, a_whole_value, a_whole_chunk}
use Rattle.chunk_codec_spec.proofs.TypeLaws.{type_lawful}
use Rattle.chunk_codec_spec.proofs.ProgramLaws.{program_lawful}
use Rattle.chunk_codec_spec.proofs.ValueLaws.{value_lawful, chunk_part_lawful}
use Rattle.file_laws.proofs.FlatLaws.{fails_first}
use Rattle.file_laws.proofs.flat.readings_fail_first.Goals as goal

pub returns : goal.returns
returns c = record {
  types = fails_first a_whole_type (type_lawful 8) (λ _. refl);
  values = fails_first a_whole_value (value_lawful 4 8) (λ _. refl);
  programs = fails_first program_part program_lawful (λ _. refl);
  chunks = fails_first a_whole_chunk (chunk_part_lawful 3) (λ _. refl);
}
