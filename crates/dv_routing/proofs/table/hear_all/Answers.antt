use Rattle.std.proofs.Common.{◌<◌, length, ap, ◌∙◌, arith}
use Rattle.std.specs.Prelude.{slice_set}
use Rattle.std.proofs.lemmas.List.Edits.{map_over_more}
use Rattle.dv_routing.specs.Lanes.{lane_after}
use Rattle.dv_routing.proofs.table.hear_all.Goals as goal

pub loop-i-preserved : goal.loop-i-preserved
loop-i-preserved c =
    let within : c.loop-i.i < length c.args.lanes.now.items = omega arith in
    ap (slice_set c.loop-i.lanes.items c.loop-i.i) c.hear.ensures
    ∙ map_over_more (lane_after c.args.dev c.args.rows.now) c.args.lanes.now.items c.loop-i.lanes.items c.loop-i.i c.index_mut.result.now within
    c.loop-i.invariant c.index_mut.ensures.value
