use Rattle.std.proofs.Common.{refl, sym, ap, ◌∙◌}
use Rattle.plan_base.specs.declared.tree.Value.{Value}
use Rattle.plan_base.specs.declared.tree.Value as value
use Rattle.plan_meaning.specs.declared.stop.EvalStop.TheVariants.{WorkSpent}
use Rattle.plan_meaning.specs.State.{joined_state}
use Rattle.plan_meaning.specs.Run.{gave, weighed_value}
use Rattle.plan_eval_state.specs.Flow.{now}
use Rattle.plan_eval_made.proofs.Weighing.{weighs_two, stops_two}
use Rattle.plan_eval_made.proofs.ends.truth.Goals as goal

pub returns-then-not-pays-clause-flows : goal.returns-then-not-pays-clause-flows
returns-then-not-pays-clause-flows c = λ s m. stops_two c.args.b (joined_state c.args.run.now.state m) (joined_state c.pays.new.self m) WorkSpent (c.if-not-pays.ensures.unpaid refl m)

pub returns-clause-flows : goal.returns-clause-flows
returns-clause-flows c = λ s m.
    c.put.ensures.flows s (weighed_value (value.Bool c.args.b) (now c.args.run.now m)) m
    (weighs_two c.args.b (joined_state c.args.run.now.state m) (joined_state c.pays.new.self m) (c.if-not-pays.ensures.paid refl m)
    ∙ ap (λ (v : Value). gave v (joined_state c.pays.new.self m)) (sym c.truth.ensures))
