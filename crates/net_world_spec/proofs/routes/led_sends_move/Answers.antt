use Rattle.net_world_spec.proofs.Moving.{led_moves}
use Rattle.net_world_spec.proofs.routes.led_sends_move.Goals as goal

pub returns : goal.returns
returns c = led_moves
