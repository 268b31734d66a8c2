use Rattle.program_text_laws.proofs.Found.{written_found}
use Rattle.program_text_laws.proofs.laws.written_programs_are_read.Goals as goal

pub returns : goal.returns
returns c = written_found
