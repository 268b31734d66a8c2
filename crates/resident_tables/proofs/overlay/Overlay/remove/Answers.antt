use Rattle.std.proofs.Common.{◌∙◌, ap, sym, w64}
use Rattle.std.proofs.lemmas.Int.{to_z-of_z}
use mir.Val.{to_z, of_z}
use Rattle.containers.specs.Keys.{Key}
use Rattle.service_api.specs.Rows.{without_row}
use Rattle.resident_tables.specs.Counted.{counts_of}
use Rattle.resident_tables.specs.Layers.{Layer, over}
use Rattle.resident_tables.proofs.Over.{removed_over, key_named}
use Rattle.resident_tables.proofs.overlay.Overlay.remove.Goals as goal

pub returns-clause-ok : goal.returns-clause-ok
returns-clause-ok c =
    let z = to_z w64 (of_z w64 c.args.key) in
    let k : Key = record { name = c.as_slice.result.now; number = z } in
    removed_over k c.self.inside.puts.items c.remove.new.self.items c.self.inside.gone.items c.forget.new.gone.items c.args.base.now.rows c.in_ok-forget.ensures.ok c.remove.ensures.items
    ∙ ap (λ (o : Layer). without_row k (over c.args.base.now.rows o)) c.self.view_is
    ∙ ap (λ (j : Key). without_row j (over c.args.base.now.rows c.args.self.now)) (key_named z c.args.key c.as_slice.result.now c.args.name.now (to_z-of_z w64 c.args.key c.ranges.key) c.as_slice.ensures)

pub returns-clause-over : goal.returns-clause-over
returns-clause-over c =
    let k : Key = record { name = c.as_slice.result.now; number = to_z w64 (of_z w64 c.args.key) } in (
      c.counts_without-counts.ensures.counts ∙ ap counts_of (sym
          (removed_over k c.self.inside.puts.items c.remove.new.self.items c.self.inside.gone.items c.forget.new.gone.items c.args.base.now.rows c.in_ok-forget.ensures.ok c.remove.ensures.items
          ∙ ap (λ (o : Layer). without_row k (over c.args.base.now.rows o)) c.self.view_is)),
      c.counts_without-counts.ensures.within,
    )
