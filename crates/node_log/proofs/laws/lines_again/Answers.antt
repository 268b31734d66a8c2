use Rattle.node_log.proofs.Going.{lines_of_run}
use Rattle.node_log.proofs.laws.lines_again.Goals as goal

pub returns : goal.returns
returns c = lines_of_run
