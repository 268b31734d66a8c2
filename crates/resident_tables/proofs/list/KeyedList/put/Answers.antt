use Rattle.resident_tables.proofs.ByIndex.{spot_here, swapped_kept, swapped_is, added_kept, added_is}
use Rattle.resident_tables.proofs.list.KeyedList.put.Goals as goal
use Rattle.std.proofs.Common.{Ok, Err, ap, ◌∙◌}
use Rattle.containers.specs.Keys.{put}

pub invariant_of-self : goal.invariant_of-self
invariant_of-self g c =
    let key = g.T.HasKey.key_of in
    let f = c.self.inside in
    let spot = spot_here key f.items.items c.as_slice.result.now f.order.items c.as_slice-2.result.now (key c.args.item) (Ok c.in-Ok.j) c.as_slice.ensures.value c.as_slice-2.ensures.value c.in-Ok.ensures in
    swapped_kept key f.items.items c.swap_in.new.items.items f.order.items c.in-Ok.j c.index.result.now c.args.item c.self.invariant spot c.index.ensures c.swap_in.ensures.items

pub invariant_of-self-in-Err : goal.invariant_of-self-in-Err
invariant_of-self-in-Err g c =
    let key = g.T.HasKey.key_of in
    let f = c.self.inside in
    let spot = spot_here key f.items.items c.as_slice.result.now f.order.items c.as_slice-2.result.now (key c.args.item) (Err c.in-Err.i) c.as_slice.ensures.value c.as_slice-2.ensures.value c.in-Err.ensures in
    added_kept key f.items.items c.push_reserved.new.self.items f.order.items c.put_place.new.order.items c.in-Err.i c.len-place.result c.args.item c.self.invariant spot
    (c.len-place.ensures ∙ f.items.ok.0) c.push_reserved.ensures.items c.put_place.ensures.items

pub returns-in-Ok-clause-items : goal.returns-in-Ok-clause-items
returns-in-Ok-clause-items g c =
    let key = g.T.HasKey.key_of in
    let f = c.self.inside in
    let spot = spot_here key f.items.items c.as_slice.result.now f.order.items c.as_slice-2.result.now (key c.args.item) (Ok c.in-Ok.j) c.as_slice.ensures.value c.as_slice-2.ensures.value c.in-Ok.ensures in
    swapped_is key f.items.items c.swap_in.new.items.items f.order.items c.in-Ok.j c.index.result.now c.args.item c.self.invariant spot c.index.ensures c.swap_in.ensures.items ∙ ap (λ t. put key c.args.item t.items) c.self.view_is

pub returns-in-Err-clause-items : goal.returns-in-Err-clause-items
returns-in-Err-clause-items g c =
    let key = g.T.HasKey.key_of in
    let f = c.self.inside in
    let spot = spot_here key f.items.items c.as_slice.result.now f.order.items c.as_slice-2.result.now (key c.args.item) (Err c.in-Err.i) c.as_slice.ensures.value c.as_slice-2.ensures.value c.in-Err.ensures in
    added_is key f.items.items c.push_reserved.new.self.items f.order.items c.put_place.new.order.items c.in-Err.i c.len-place.result c.args.item c.self.invariant spot
    (c.len-place.ensures ∙ f.items.ok.0) c.push_reserved.ensures.items c.put_place.ensures.items
    ∙ ap (λ t. put key c.args.item t.items) c.self.view_is
