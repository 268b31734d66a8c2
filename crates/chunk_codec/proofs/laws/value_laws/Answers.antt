use Rattle.std.proofs.Common.{refl}
use Rattle.chunk_codec_spec.specs.Spelling.{a_whole_value}
use Rattle.chunk_codec_spec.proofs.ValueLaws.{value_lawful}
use Rattle.chunk_codec_spec.proofs.WholeLaws.{one_spelling_by, at_most_one, spelled_or_fault, spelled_no_fault}
use Rattle.chunk_codec.proofs.Wholes.{again_by}
use Rattle.chunk_codec.proofs.laws.value_laws.Goals as goal

pub returns : goal.returns
returns c = record {
  one_spelling = one_spelling_by a_whole_value (value_lawful 4 8) (λ _. refl);
  again = again_by a_whole_value;
  one_fault = at_most_one a_whole_value (value_lawful 4 8) (λ _. refl);
  either = spelled_or_fault a_whole_value (value_lawful 4 8) (λ _. refl);
  never_both = spelled_no_fault a_whole_value (value_lawful 4 8) (λ _. refl);
}
