use Rattle.std.proofs.Common.{refl, ap, ◌∙◌}
use Rattle.std.specs.Prelude.{map}
use Rattle.dv_routing.specs.declared.table.Table.{Table}
use Rattle.dv_routing.specs.Lanes.{lane_after}
use Rattle.dv_routing.proofs.Tables.{stands_after}
use Rattle.dv_routing.proofs.table.Table.hear.Goals as goal

pub returns : goal.returns
returns c = λ r s.
    let old = c.args.self.now in
    let new : Table = record { here = old.here; hosts = old.hosts; lanes = c.hear_all.new.lanes } in
    stands_after r old new c.args.dev c.args.advert.now s refl refl
    (c.hear_all.ensures ∙ ap (λ rows. map (lane_after c.args.dev rows) old.lanes.items) c.as_slice.ensures)
