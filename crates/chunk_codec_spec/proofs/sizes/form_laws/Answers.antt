use Rattle.chunk_codec_spec.proofs.SpelledForms.{type_is_well, program_is_well, value_is_well, chunk_is_well}
use Rattle.chunk_codec_spec.proofs.sizes.form_laws.Goals as goal

pub returns : goal.returns
returns c = record { of_types = type_is_well; of_programs = program_is_well; of_values = value_is_well; of_chunks = chunk_is_well }
