use Rattle.std.proofs.Common.{ap, ◌∙◌}
use Rattle.std.specs.Prelude.{map}
use Rattle.service_api.specs.declared.advert.Advert.{Advert}
use Rattle.dv_routing.specs.Routing.{advert_row, own_advert}
use Rattle.dv_routing.proofs.table.Table.advert.Goals as goal

pub returns : goal.returns
unfolding own_advert
returns c = λ r s.
    ap (λ h. let a : Advert = record { host = h; rows = c.in_ok-told_rows.field-0 } in a) s.here
    ∙ ap (λ rows. let a : Advert = record { host = r.here; rows = rows } in a)
    (c.in_ok-told_rows.ensures ∙ ap (map advert_row) (c.as_slice.ensures ∙ c.in_ok-routes.ensures r s))
