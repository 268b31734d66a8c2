use Rattle.top_laws.proofs.ProgramTokens.{program_lexes}
use Rattle.program_text_laws.proofs.Within.{within_limits}
use Rattle.program_text_laws.proofs.Declarations.{program_reads}
use Rattle.top_laws.proofs.again.printed_program_again.Goals as goal

pub returns : goal.returns
returns c = λ p end h w. let l = program_lexes p h 0 in let r = program_reads p l.0 end h (within_limits p w) l.2 in (l.0, l.1, r.draft, r.is, r.same)
