use Rattle.dv_routing.specs.Routing.{better}
use Rattle.dv_routing.proofs.Tables.{lane_next, lanes_past}
use Rattle.dv_routing.proofs.table.best_route.Goals as goal

pub loop-lane-preserved : goal.loop-lane-preserved
loop-lane-preserved c = λ r links e.
    lane_next r links c.args.lanes.now c.loop-lane.lane-index c.lane-item.result c.args.host c.loop-lane.best c.route.result c.better-best.result e c.loop-lane-test.true c.lane-item.is
    (c.route.ensures r) c.better-best.ensures (c.loop-lane.invariant r links e)

pub returns : goal.returns
returns c = λ r links e. lanes_past c.args.lanes.now c.loop-lane.lane-index c.args.host c.loop-lane.best c.loop-lane-test.false (c.loop-lane.invariant r links e)
