use Rattle.node_log.proofs.Places.{own_places}
use Rattle.node_log.proofs.laws.refused_again.Goals as goal

pub returns : goal.returns
returns c = own_places
