use Rattle.file_laws.proofs.FlatLaws.{frame_is_flat}
use Rattle.file_laws.proofs.flat.frame_faults_are_flat.Goals as goal

pub returns : goal.returns
returns c = frame_is_flat
