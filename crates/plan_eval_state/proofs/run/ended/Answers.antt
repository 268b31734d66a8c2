use Rattle.std.proofs.Common.{[], ◌∷◌, sym, ap, ◌∙◌}
use Rattle.plan_meaning.specs.State.{joined_state}
use Rattle.plan_meaning.specs.Run.{stopped, weighed_value}
use Rattle.plan_eval_state.specs.Flow.{now}
use Rattle.plan_eval_state.proofs.run.ended.Goals as goal

pub returns-in-TooLarge-clause-flows : goal.returns-in-TooLarge-clause-flows
returns-in-TooLarge-clause-flows c = λ s v pre n is.
    let w = c.top_weight-weight.ensures v pre is in
    c.stopped.ensures.flows s (v ∷ []) pre (weighed_value v (now c.args.run.now n)) n is
    (λ other. c.in-TooLarge.ensures.weighs v n w.0 w.1 ∙ ap (λ e. stopped e (joined_state c.weighs_as.new.self n)) (sym (c.too_large.ensures other)))
