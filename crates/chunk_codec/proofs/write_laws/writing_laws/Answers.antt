use Rattle.chunk_codec_spec.proofs.FitsLaws.{type_fits_kept, program_fits_kept, value_fits_kept, chunk_fits_kept}
use Rattle.chunk_codec.proofs.write_laws.writing_laws.Goals as goal

pub returns : goal.returns
returns c = record { of_types = type_fits_kept 8; of_programs = program_fits_kept; of_values = value_fits_kept 4 8; of_chunks = chunk_fits_kept 3 }
