use Rattle.std.proofs.Common.{[], refl, sym, ap, ◌∙◌}
use Rattle.plan_base.specs.declared.tree.Value as value
use Rattle.plan_meaning.specs.State.{joined_state}
use Rattle.plan_meaning.specs.Run.{stopped, weighed_value}
use Rattle.plan_eval_state.specs.Flow.{now}
use Rattle.plan_eval_made.proofs.packed.pack.Goals as goal

pub returns-in-TooLarge-clause-flows : goal.returns-in-TooLarge-clause-flows
returns-in-TooLarge-clause-flows c = λ s m.
    c.stopped.ensures.flows s [] c.args.run.now.stack
    (weighed_value (value.Chunk (record { code = c.args.here.now.code.now; entry = c.args.entry.now; args = c.args.row })) (now c.args.run.now m)) m refl
    (λ other. c.in-TooLarge.ensures.weighs (value.Chunk (record { code = c.args.here.now.code.now; entry = c.args.entry.now; args = c.args.row })) m
    c.chunk_weight-weight.ensures c.chunk_nesting-nesting.ensures ∙ ap (λ e. stopped e (joined_state c.weighs_as.new.self m)) (sym (c.too_large.ensures other)))
