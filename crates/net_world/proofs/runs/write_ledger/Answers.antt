use Rattle.std.proofs.Common.{◌++◌, ap, ◌∙◌}
use Rattle.std.specs.Prelude.{codes}
use Rattle.net_world.proofs.RunLaws.{stopped_rows, stopped_end, ledger_written}
use Rattle.net_world.proofs.runs.write_ledger.Goals as goal

pub returns-in-Err : goal.returns-in-Err
returns-in-Err g c = λ h w s law.
    let out = g.K.Sink.state in
    let begun = c.in-Ok.ensures.ok ∙ ap (λ x. x ++ codes "ledger\n") c.new-text.ensures in
    stopped_rows h w c.args.ledger.now s law c.in-Err.ensures.once _ begun c.in-Err.fault (out c.args.out.now) (out c.write_rows.new.out) c.in-Err.ensures.rows

pub returns-in-Ok-write_end : goal.returns-in-Ok-write_end
returns-in-Ok-write_end g c = λ h w s law.
    let out = g.K.Sink.state in
    let begun = c.in-Ok.ensures.ok ∙ ap (λ x. x ++ codes "ledger\n") c.new-text.ensures in
    ledger_written h w c.args.ledger.now s law c.in-Ok-write_rows.ensures.once _ begun (out c.args.out.now) (out c.write_rows.new.out) (out c.write_end.new.out) _ c.in-Ok-write_rows.ensures.rows c.in-Ok-write_end.ensures

pub returns-in-Err-write_end : goal.returns-in-Err-write_end
returns-in-Err-write_end g c = λ h w s law.
    let out = g.K.Sink.state in
    let begun = c.in-Ok.ensures.ok ∙ ap (λ x. x ++ codes "ledger\n") c.new-text.ensures in
    stopped_end h w c.args.ledger.now s law c.in-Ok-write_rows.ensures.once _ begun (out c.args.out.now) (out c.write_rows.new.out) (out c.write_end.new.out) _ c.in-Ok-write_rows.ensures.rows
    c.in-Err-write_end.fault c.in-Err-write_end.ensures
