use Rattle.node_core_spec.proofs.Windows.{stamped_later, stamped_taken}
use Rattle.node_core_spec.proofs.laws.windows_only_close.Goals as goal

pub returns : goal.returns
returns c = record { later = λ node d e x s h. stamped_later node d x e s h; taken = stamped_taken }
