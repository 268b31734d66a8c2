use Rattle.net_world_spec.proofs.WireEnds.{highest_none, highest_next}
use Rattle.net_world_spec.proofs.numbers.highest.Goals as goal

pub loop-frame-init : goal.loop-frame-init
loop-frame-init c = highest_none c.args.wire.now

pub loop-frame-preserved : goal.loop-frame-preserved
loop-frame-preserved c = highest_next c.args.wire.now c.loop-frame.frame-index c.frame-item.result c.loop-frame.found c.at_least.result c.loop-frame-test.true c.frame-item.is c.loop-frame.invariant c.at_least.ensures
