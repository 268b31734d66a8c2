use Rattle.node_core_spec.proofs.Fitting.{step_fits}
use Rattle.node_core_spec.proofs.laws.step_keeps.Goals as goal

pub returns : goal.returns
returns c = λ node e h n. (step_fits node e h n).node
