use Rattle.node_serve.proofs.StepLaws.{lost_result}
use Rattle.node_serve.proofs.steps.try_step.Goals as goal

pub returns-in-Err : goal.returns-in-Err
returns-in-Err g c =
    λ s e st ev. lost_result g.S.Services.stands c.args.config.now c.args.number s e c.step.new.self c.lost_texts-in-Err.result (c.in-Err.ensures.steps.err s st) c.lost_texts-in-Err.ensures.line
    c.lost_texts-in-Err.ensures.lines c.lost_texts-in-Err.ensures.made
