use Rattle.std.proofs.Common.{◌∙◌, sym}
use Rattle.containers.proofs.Binds.{ok_inj}
use Rattle.plan_parser_laws.proofs.ProgramsAre.{program_is}
use Rattle.plan_parser_laws.proofs.programs.programs_have_one_reading.Goals as goal

pub returns : goal.returns
returns c = λ tokens end d e p q. ok_inj (sym (program_is p) ∙ program_is q)
