use Rattle.std.proofs.Common.{arith}
use Rattle.std.proofs.lemmas.List.{get_or_default}
use Rattle.std.proofs.lemmas.List.Edits.{map_over_more}
use Rattle.resident_tables.specs.Index.{place_moved_up}
use Rattle.resident_tables.proofs.edits.close_gap.Goals as goal

pub loop-place-preserved : goal.loop-place-preserved
loop-place-preserved c =
    rw c.place_after.ensures (map_over_more (place_moved_up c.args.gap) c.args.order.now c.loop-place.place-items c.loop-place.place-index _ c.loop-place-test.true c.loop-place.invariant
    (get_or_default c.loop-place.place-items c.loop-place.place-index 0 _ (let n = c.loop-place.auto.place-items in let t = c.loop-place-test.true in omega arith)))
