use Rattle.node_log.proofs.Going.{turns_more}
use Rattle.node_log.proofs.laws.goes_on.Goals as goal

pub returns : goal.returns
returns c = turns_more
