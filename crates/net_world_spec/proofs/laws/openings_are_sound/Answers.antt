use Rattle.net_world_spec.proofs.Opening.{opening_sound}
use Rattle.net_world_spec.proofs.laws.openings_are_sound.Goals as goal

pub returns : goal.returns
returns c = opening_sound
