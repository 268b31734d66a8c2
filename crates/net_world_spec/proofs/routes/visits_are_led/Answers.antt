use Rattle.net_world_spec.proofs.Leading.{visit_led}
use Rattle.net_world_spec.proofs.routes.visits_are_led.Goals as goal

pub returns : goal.returns
returns c = visit_led
