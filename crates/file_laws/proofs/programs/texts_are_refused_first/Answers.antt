use Rattle.file_laws.proofs.ProgramTexts.{first, some, apart, one}
use Rattle.file_laws.proofs.programs.texts_are_refused_first.Goals as goal

pub returns-clause-first : goal.returns-clause-first
returns-clause-first c = λ text e small. first text small e

pub returns-clause-some : goal.returns-clause-some
returns-clause-some c = some

pub returns-clause-apart : goal.returns-clause-apart
returns-clause-apart c = λ text p e small. apart text small p e

pub returns-clause-one : goal.returns-clause-one
returns-clause-one c = λ text d e small. one text small d e
