use Rattle.std.proofs.Common.{◌≡◌, ◌<◌, length, get_or, sym, ap, ◌∙◌, arith}
use Rattle.std.specs.Prelude.{slice_set}
use Rattle.std.proofs.lemmas.List.Edits.{map_over_more}
use Rattle.std.proofs.lemmas.Option.{get_or_from_slice_get}
use Rattle.dv_routing.specs.Lanes.{known_after}
use Rattle.dv_routing.proofs.table.learn.Goals as goal

pub loop-i-preserved : goal.loop-i-preserved
loop-i-preserved c =
    let x = c.at-entry.result.now in
    let within : c.loop-i.i < length c.args.known.now = omega arith in
    let read : x ≡ get_or c.loop-i.known c.loop-i.i x = sym (get_or_from_slice_get c.loop-i.known c.loop-i.i x x c.at-entry.ensures) in
    c.set.ensures
    ∙ (ap (slice_set c.loop-i.known c.loop-i.i) c.after.ensures
    ∙ map_over_more (known_after c.args.rows.now) c.args.known.now c.loop-i.known c.loop-i.i x within c.loop-i.invariant read)
