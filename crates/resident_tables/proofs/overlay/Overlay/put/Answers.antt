use Rattle.std.proofs.Common.{◌≡◌, ℤ, true, ◌∙◌, ap, sym, subst, w64}
use Rattle.std.proofs.lemmas.Int.{to_z-of_z}
use mir.Val.{to_z, of_z}
use Rattle.containers.specs.Keys.{IsUnique}
use Rattle.service_api.specs.declared.row.Row.{Row}
use Rattle.service_api.specs.Rows.{row_key, put_row, fits}
use Rattle.resident_tables.specs.declared.counts.Counts.{Counts}
use Rattle.resident_tables.specs.Counted.{counts_of, within}
use Rattle.resident_tables.specs.Layers.{Layer, over}
use Rattle.resident_tables.specs.Tables.{row_of}
use Rattle.resident_tables.proofs.Over.{put_over}
use Rattle.resident_tables.proofs.overlay.Overlay.put.Goals as goal

pub returns-clause-rows : goal.returns-clause-rows
returns-clause-rows c =
    let old = over c.args.base.now.rows c.args.self.now in
    let r = row_of c.args.name.now (to_z w64 (of_z w64 c.args.key)) c.args.ty.now c.args.value.now c.args.expiry in
    let same = ap (λ (z : ℤ). row_of c.args.name.now z c.args.ty.now c.args.value.now c.args.expiry) (to_z-of_z w64 c.args.key c.ranges.key) in (
      subst (λ (x : Row). fits (put_row x old) ≡ true) same c.in-Some.ensures.fit.0,
      put_over r c.self.inside.puts.items c.put_parts.new.rows.items c.self.inside.gone.items c.args.base.now.rows
          (subst (λ (o : Layer). IsUnique row_key o.puts) (sym c.self.view_is) c.in-Some.ensures.puts) c.in-Ok.ensures.ok
          ∙ ap (λ (o : Layer). put_row r (over c.args.base.now.rows o)) c.self.view_is
          ∙ ap (λ (x : Row). put_row x old) same,
    )

pub returns-clause-over : goal.returns-clause-over
returns-clause-over c =
    let r = row_of c.args.name.now (to_z w64 (of_z w64 c.args.key)) c.args.ty.now c.args.value.now c.args.expiry in (
      c.in-Some.ensures.fit.1 ∙ ap counts_of (sym
          (put_over r c.self.inside.puts.items c.put_parts.new.rows.items c.self.inside.gone.items c.args.base.now.rows
          (subst (λ (o : Layer). IsUnique row_key o.puts) (sym c.self.view_is) c.in-Some.ensures.puts) c.in-Ok.ensures.ok
          ∙ ap (λ (o : Layer). put_row r (over c.args.base.now.rows o)) c.self.view_is)),
      subst (λ (x : Counts). within x ≡ true) (sym c.in-Some.ensures.fit.1) c.in-Some.ensures.fit.0,
    )
