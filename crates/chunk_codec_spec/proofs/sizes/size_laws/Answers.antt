use Rattle.chunk_codec_spec.proofs.LengthLaws.{type_length, code_length, value_length, chunk_length}
use Rattle.chunk_codec_spec.proofs.sizes.size_laws.Goals as goal

pub returns : goal.returns
returns c = record { of_types = type_length; of_programs = code_length; of_values = value_length; of_chunks = chunk_length }
