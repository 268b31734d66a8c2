use Rattle.plan_parser_laws.proofs.ProgramsRead.{program_written}
use Rattle.plan_parser_laws.proofs.programs.programs_read_are_written.Goals as goal

pub returns : goal.returns
returns c = λ tokens end d e. program_written tokens end d e
