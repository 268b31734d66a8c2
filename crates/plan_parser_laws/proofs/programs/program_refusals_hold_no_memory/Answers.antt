use Rattle.plan_parser_laws.proofs.Own.{agenda_own}
use Rattle.plan_parser_laws.proofs.ProgramsWork.{program_refused}
use Rattle.plan_parser_laws.proofs.programs.program_refusals_hold_no_memory.Goals as goal

pub returns : goal.returns
returns c = λ tokens end e h. agenda_own e _ _ ((program_refused tokens end e).0 h)
