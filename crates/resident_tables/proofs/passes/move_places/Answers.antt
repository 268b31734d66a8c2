use Rattle.std.proofs.Common.{◌≡◌, ◌<◌, length, map, sym, subst, ◌∙◌}
use Rattle.std.specs.Prelude.{slice_index}
use Rattle.resident_tables.specs.Passes.{place_of, mark_of}
use Rattle.resident_tables.proofs.Marked.{half_stays, place_within, place_moved}
use Rattle.resident_tables.proofs.passes.move_places.Goals as goal

pub bounds-order-place_of : goal.bounds-order-place_of
bounds-order-place_of c =
    place_within c.loop-i.order c.args.order.now (map mark_of c.args.order.now) c.loop-i.i c.place_of.result c.loop-i-test.true c.loop-i.auto.order c.loop-i.invariant.places c.requires.within
    c.place_of.ensures.place

pub loop-i-preserved : goal.loop-i-preserved
loop-i-preserved c =
    let xs = c.loop-i.order in
    let es = c.args.order.now in
    let n = c.loop-i.auto.order in
    let k = place_within xs es (map mark_of es) c.loop-i.i c.place_of.result c.loop-i-test.true n c.loop-i.invariant.places c.requires.within c.place_of.ensures.place in record {
      marks = half_stays mark_of xs (map mark_of es) c.loop-i.i c.entry_of.result c.loop-i-test.true (c.entry_of.ensures.mark ∙ c.mark_of.ensures.mark) c.loop-i.invariant.marks;
      places = place_moved xs es c.loop-i.i c.place_of.result c.mark_of-mark.result c.entry_of.result c.loop-i-test.true k n c.place_of.ensures.place c.mark_of-mark.ensures.mark c.entry_of.ensures.place
          c.loop-i.invariant.marks c.loop-i.invariant.places;
    }
