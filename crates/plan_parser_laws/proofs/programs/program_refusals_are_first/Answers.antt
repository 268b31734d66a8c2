use Rattle.containers.proofs.Agendas.{one_first_fault}
use Rattle.plan_parser_laws.specs.Agenda.{step}
use Rattle.plan_parser_laws.proofs.ProgramsWork.{program_refused}
use Rattle.plan_parser_laws.proofs.programs.program_refusals_are_first.Goals as goal

pub returns-clause-first : goal.returns-clause-first
returns-clause-first c = λ tokens end e. program_refused tokens end e

pub returns-clause-one : goal.returns-clause-one
returns-clause-one c = λ tokens end d e h k. one_first_fault step h k
