use Rattle.net_world_spec.proofs.CutPlaces.{first_is_at}
use Rattle.net_world_spec.proofs.moves.places_are_first.Goals as goal

pub returns : goal.returns
returns c = first_is_at
