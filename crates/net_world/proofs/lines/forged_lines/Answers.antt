use Rattle.net_world.proofs.StandLaws.{if_ok, none_forged}
use Rattle.net_world.proofs.lines.forged_lines.Goals as goal

pub returns-in-Err : goal.returns-in-Err
returns-in-Err c = if_ok _ _ c.refused_lines.result (λ lines p. none_forged c.args.host c.in-Err.fault _ lines c.in-Err.ensures.fault p) c.refused_lines.ensures.ok
