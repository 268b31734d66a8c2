use Rattle.std.proofs.Common.{◌∙◌, ◌++◌, ◌∷◌, [], ap}
use Rattle.packet_frame.specs.Stamped.{stamped_bytes}
use Rattle.net_world_spec.specs.declared.lines.Line.TheVariants.{Wire}
use Rattle.net_world_spec.specs.World.{lines_at}
use Rattle.net_world.proofs.StandLaws.{if_ok}
use Rattle.net_world.proofs.lines.sent_lines.Goals as goal

pub returns : goal.returns
returns c =
    let acts = c.in_ok-before.ensures ∙ ap (λ x. x ++ lines_at c.args.host c.args.acts) c.no_lines.ensures in
    if_ok _ _ c.with_wire.result (λ lines e. e ∙ ap (λ x. x ++ Wire c.args.number (stamped_bytes c.args.frame.now) ∷ []) acts) c.with_wire.ensures
