use Rattle.frag_chunks.specs.Saying.{as_said}
use Rattle.frag_chunks.proofs.Judging.{kept_put, kept_not_spoiled}
use Rattle.frag_chunks.specs.declared.holding.PartialMessage.TheVariants as holding
use Rattle.frag_chunks.proofs.holding.put_part.Goals as goal

pub returns-in_ok-piece-in-Open-clause-ok : goal.returns-in_ok-piece-in-Open-clause-ok
returns-in_ok-piece-in-Open-clause-ok c =
    let p = kept_put c.in-Open.slots (as_said c.args.given) c.place.result c.place.ensures in
    let t = c.in_ok-piece-in-Open.ensures in
    let u = c.set.ensures in
    let s = c.in-Open.is in
    cc

pub returns-in-Spoiled-clause-ok : goal.returns-in-Spoiled-clause-ok
returns-in-Spoiled-clause-ok c = kept_not_spoiled c.args.holding.now (as_said c.args.given) c.in-Spoiled.is c.requires
