use Rattle.file_laws.proofs.FlatLaws.{stamped_is_flat}
use Rattle.file_laws.proofs.flat.stamped_faults_are_flat.Goals as goal

pub returns : goal.returns
returns c = stamped_is_flat
