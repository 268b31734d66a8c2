use Rattle.std.proofs.Common.{ap, ◌∙◌, length, arith}
use Rattle.std.proofs.lemmas.List.{length-replicate, length-set}
use Rattle.frag_chunks.specs.Saying.{as_said}
use Rattle.frag_chunks.proofs.Judging.{new_within, new_put, few_places}
use Rattle.frag_chunks.proofs.holding.first_part.Goals as goal

pub set-requires : goal.set-requires
set-requires c =
    let w = new_within (as_said c.args.given) c.place.result c.places.result c.requires c.place.ensures c.places.ensures in
    let l = ap length c.in_ok-slots.ensures ∙ length-replicate _ _ in
    omega (arith, w, l)

pub returns-clause-part : goal.returns-clause-part
returns-clause-part c =
    let p = new_put (as_said c.args.given) c.place.result c.places.result c.place.ensures c.places.ensures in
    let s = c.in_ok-slots.ensures in
    let t = c.in_ok-piece.ensures in
    let u = c.set.ensures in
    cc

pub returns-clause-few : goal.returns-clause-few
returns-clause-few c =
    let l = ap length c.in_ok-slots.ensures ∙ length-replicate _ _ in
    let s = ap length c.set.ensures ∙ length-set _ _ _ in
    omega (arith, few_places (as_said c.args.given) c.requires, c.places.ensures, l, s)
