use Rattle.plan_parser_laws.proofs.ProgramsAre.{program_is}
use Rattle.plan_parser_laws.proofs.programs.programs_written_are_read.Goals as goal

pub returns : goal.returns
returns c = λ tokens end d e. program_is e
