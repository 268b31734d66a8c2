use Rattle.program_text_laws.proofs.Within.{within_limits}
use Rattle.program_text_laws.proofs.Declarations.{program_reads}
use Rattle.top_laws.proofs.again.printed_program_reads.Goals as goal

pub returns : goal.returns
returns c = λ p ts end h w k. let r = program_reads p ts end h (within_limits p w) k in (r.draft, r.is, r.same)
