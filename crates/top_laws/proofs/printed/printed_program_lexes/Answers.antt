use Rattle.top_laws.proofs.ProgramTokens.{program_lexes}
use Rattle.top_laws.proofs.printed.printed_program_lexes.Goals as goal

pub returns : goal.returns
returns c = λ p h. program_lexes p h
