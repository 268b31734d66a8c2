use Rattle.file_laws.proofs.WholeFrames.{stamped_first, stamped_some, stamped_apart, stamped_one}
use Rattle.file_laws.proofs.frames.stamped_frames_are_refused_first.Goals as goal

pub returns-clause-first : goal.returns-clause-first
returns-clause-first c = λ bytes e are. stamped_first bytes are e

pub returns-clause-some : goal.returns-clause-some
returns-clause-some c = stamped_some

pub returns-clause-apart : goal.returns-clause-apart
returns-clause-apart c = λ bytes x e are. stamped_apart bytes are x e

pub returns-clause-one : goal.returns-clause-one
returns-clause-one c = λ bytes d e are. stamped_one bytes are d e
