use Rattle.file_laws.proofs.ProgramTexts.{text_own}
use Rattle.file_laws.proofs.programs.program_refusals_hold_no_memory.Goals as goal

pub returns : goal.returns
returns c = text_own
