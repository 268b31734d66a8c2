use Rattle.std.proofs.Common.{◌<◌, [], refl, sym, subst, ◌∙◌, arith}
use Rattle.resident_tables.proofs.Marked.{plain_places, half_stays, row_marked, row_counted, left_within, all_marked, all_counted}
use Rattle.resident_tables.specs.Passes.{place_of}
use Rattle.resident_tables.proofs.passes.mark_rows.Goals as goal

pub loop-i-init : goal.loop-i-init
loop-i-init c = record { places = plain_places _ c.args.order.now c.requires.few c.requires.within; marks = refl; counted = omega arith; few = omega arith }

pub loop-i-preserved : goal.loop-i-preserved
loop-i-preserved c =
    let n = c.loop-i.auto.order ∙ c.requires.same in
    let within = subst (λ k. c.loop-i.i < k) (sym n) c.loop-i-test.true in
    let x = c.index-rows-i.result in record {
      places = half_stays place_of c.loop-i.order c.args.order.now c.loop-i.i c.entry_of.result within (c.entry_of.ensures.place ∙ c.place_of.ensures.place) c.loop-i.invariant.places;
      marks = row_marked c.args.now _ c.loop-i.left c.loop-i.i c.mark_here-mark.result c.left_here-left.result c.entry_of.result x c.args.rows.now c.loop-i.order _ c.loop-i-test.true n
          c.index-rows-i.is c.mark_here-mark.ensures c.left_here-left.ensures c.entry_of.ensures.mark c.loop-i.invariant.marks;
      counted = row_counted c.args.now c.loop-i.left c.loop-i.i c.left_here-left.result _ x c.args.rows.now c.loop-i-test.true c.index-rows-i.is c.left_here-left.ensures c.loop-i.invariant.counted;
      few = rw c.left_here-left.ensures (left_within c.args.now 0 c.loop-i.left x [] c.loop-i.i c.loop-i.invariant.few);
    }

pub returns-clause-marks : goal.returns-clause-marks
returns-clause-marks c =
    all_marked c.args.now _ c.loop-i.left c.loop-i.i c.args.rows.now c.loop-i.order _ c.loop-i-test.false (c.loop-i.auto.order ∙ c.requires.same) c.loop-i.invariant.marks

pub returns-clause-left : goal.returns-clause-left
returns-clause-left c = all_counted c.args.now c.loop-i.left c.loop-i.i _ c.args.rows.now c.loop-i-test.false c.loop-i.invariant.counted
