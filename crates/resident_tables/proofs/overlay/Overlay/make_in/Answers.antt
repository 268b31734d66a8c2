use Rattle.std.proofs.Common.{ap, ◌∙◌}
use Rattle.resident_tables.specs.Layers.{over, put_all, without_all}
use Rattle.resident_tables.proofs.Steps.{puts_are}
use Rattle.resident_tables.proofs.overlay.Overlay.make_in.Goals as goal

pub returns : goal.returns
returns c =
    let base = c.args.rows.now.items in
    let gone = c.drop_gone.ensures.rows ∙ ap (λ gs. without_all gs base) c.as_slice.ensures.items in
    c.move_to.ensures.moved ∙ puts_are c.self.inside.puts.items c.drop_gone.new.rows.items ∙ ap (put_all c.self.inside.puts.items) gone ∙ ap (over base) c.self.view_is
