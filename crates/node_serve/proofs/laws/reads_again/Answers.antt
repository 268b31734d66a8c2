use Rattle.node_serve.proofs.Again.{again}
use Rattle.node_serve.proofs.laws.reads_again.Goals as goal

pub returns : goal.returns
returns c = again
