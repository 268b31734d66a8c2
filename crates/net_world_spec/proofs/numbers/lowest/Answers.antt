use Rattle.net_world_spec.proofs.WireEnds.{lowest_none, lowest_next}
use Rattle.net_world_spec.proofs.numbers.lowest.Goals as goal

pub loop-frame-init : goal.loop-frame-init
loop-frame-init c = lowest_none c.args.wire.now

pub loop-frame-preserved : goal.loop-frame-preserved
loop-frame-preserved c = lowest_next c.args.wire.now c.loop-frame.frame-index c.frame-item.result c.loop-frame.found c.at_most.result c.loop-frame-test.true c.frame-item.is c.loop-frame.invariant c.at_most.ensures
