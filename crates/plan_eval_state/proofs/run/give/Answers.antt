use Rattle.std.proofs.Common.{[], refl, sym, ap, ◌∙◌}
use Rattle.plan_meaning.specs.State.{joined_state}
use Rattle.plan_meaning.specs.Run.{stopped, weighed_value}
use Rattle.plan_eval_state.specs.Flow.{now}
use Rattle.plan_eval_state.proofs.run.give.Goals as goal

pub returns-in-TooLarge-clause-flows : goal.returns-in-TooLarge-clause-flows
returns-in-TooLarge-clause-flows c = λ s n.
    c.stopped.ensures.flows s [] c.args.run.now.stack (weighed_value c.args.slot (now c.args.run.now n)) n refl
    (λ other. c.in-TooLarge.ensures.weighs n ∙ ap (λ e. stopped e (joined_state c.weighs.new.state n)) (sym (c.too_large.ensures other)))
