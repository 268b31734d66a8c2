use Rattle.node_core_spec.specs.State.{new_node}
use Rattle.node_log.proofs.replay.run_log.Goals as goal

pub returns : goal.returns
returns g c = c.write_log.ensures (new_node c.args.log.now.node (g.S.Services.stands c.args.services)) c.in-Ok.ensures.stands
