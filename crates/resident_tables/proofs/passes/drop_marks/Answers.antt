use Rattle.std.proofs.Common.{arith}
use Rattle.std.proofs.lemmas.List.{get_or_default}
use Rattle.std.proofs.lemmas.List.Edits.{map_over_more}
use Rattle.resident_tables.specs.Passes.{place_of}
use Rattle.resident_tables.proofs.passes.drop_marks.Goals as goal

pub loop-entry-preserved : goal.loop-entry-preserved
loop-entry-preserved c =
    rw c.place_of.ensures.place (map_over_more place_of c.args.order.now c.loop-entry.entry-items c.loop-entry.entry-index _ c.loop-entry-test.true c.loop-entry.invariant
    (get_or_default c.loop-entry.entry-items c.loop-entry.entry-index 0 _ (let n = c.loop-entry.auto.entry-items in let t = c.loop-entry-test.true in omega arith)))
