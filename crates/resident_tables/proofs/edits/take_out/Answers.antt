use Rattle.std.proofs.Common.{arith}
use Rattle.containers.specs.Keys.{IsUnique}
use Rattle.resident_tables.specs.Index.{IsIndex, place_moved_up}
use Rattle.resident_tables.proofs.ByIndex.{unique_taken, index_taken}
use Rattle.resident_tables.proofs.edits.take_out.Goals as goal

pub returns-clause-unique : goal.returns-clause-unique
returns-clause-unique g c =
    unique_taken g.T.HasKey.key_of c.args.items.now.items c.drop_at.new.items.items c.args.order.now.items c.args.j c.drop_place-place.result c.requires.unique c.requires.index
    (let e = c.args.order.now.ok.0 in let w = c.requires.within in omega arith) c.drop_place-place.ensures.place c.drop_at.ensures.items

pub returns-clause-index : goal.returns-clause-index
returns-clause-index g c =
    index_taken g.T.HasKey.key_of c.args.items.now.items c.drop_at.new.items.items c.args.order.now.items c.drop_place-place.new.order.items c.args.j c.drop_place-place.result c.requires.index
    (let e = c.args.order.now.ok.0 in let w = c.requires.within in omega arith) c.drop_place-place.ensures.place c.drop_at.ensures.items c.drop_place-place.ensures.items
