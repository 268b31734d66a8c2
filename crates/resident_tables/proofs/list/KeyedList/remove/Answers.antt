use Rattle.std.proofs.Common.{Ok, Err, sym, ap, ◌∙◌}
use Rattle.containers.specs.Keys.{without}
use Rattle.resident_tables.proofs.ByIndex.{spot_here, without_found, without_absent}
use Rattle.resident_tables.proofs.list.KeyedList.remove.Goals as goal

pub returns-in-Ok-clause-items : goal.returns-in-Ok-clause-items
returns-in-Ok-clause-items g c =
    let key = g.T.HasKey.key_of in
    let k = g.Q.HasKey.key_of c.args.wanted.now in
    let f = c.self.inside in
    let spot = spot_here key f.items.items c.as_slice.result.now f.order.items c.as_slice-2.result.now k (Ok c.in-Ok.j) c.as_slice.ensures.value c.as_slice-2.ensures.value c.in-Ok.ensures in
    c.take_out.ensures.items ∙ sym (without_found key k f.items.items f.order.items c.in-Ok.j c.self.invariant.0 c.self.invariant.1 spot.0 spot.1) ∙ ap (λ t. without key k t.items) c.self.view_is

pub returns-in_default-clause-items : goal.returns-in_default-clause-items
returns-in_default-clause-items g c =
    let key = g.T.HasKey.key_of in
    let k = g.Q.HasKey.key_of c.args.wanted.now in
    let f = c.self.inside in
    let spot = spot_here key f.items.items c.as_slice.result.now f.order.items c.as_slice-2.result.now k (Err c.in_default.field-0) c.as_slice.ensures.value c.as_slice-2.ensures.value c.in_default.ensures in
    sym (ap (λ t. without key k t.items) (sym c.self.view_is) ∙ without_absent key k f.items.items f.order.items c.in_default.field-0 c.self.invariant.1 spot ∙ ap (λ t. t.items) c.self.view_is)
