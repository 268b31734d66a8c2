use Rattle.file_laws.proofs.WholeFrames.{first, some, apart, one}
use Rattle.file_laws.proofs.frames.frames_are_refused_first.Goals as goal

pub returns-clause-first : goal.returns-clause-first
returns-clause-first c = λ bytes e are. first bytes are e

pub returns-clause-some : goal.returns-clause-some
returns-clause-some c = some

pub returns-clause-apart : goal.returns-clause-apart
returns-clause-apart c = λ bytes x e are. apart bytes are x e

pub returns-clause-one : goal.returns-clause-one
returns-clause-one c = λ bytes d e are. one bytes are d e
