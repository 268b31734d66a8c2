use Rattle.std.proofs.Common.{refl, sym, ap, ◌∙◌, w64}
use Rattle.std.proofs.lemmas.Int.{to_z-of_z}
use Rattle.plan_base.specs.declared.tree.Value.{Value}
use Rattle.plan_base.specs.declared.tree.Value as value
use Rattle.plan_meaning.specs.declared.stop.EvalStop.TheVariants.{WorkSpent}
use Rattle.plan_meaning.specs.State.{joined_state}
use Rattle.plan_meaning.specs.Run.{gave, weighed_value}
use Rattle.plan_eval_state.specs.Flow.{now}
use Rattle.plan_eval_made.proofs.Weighing.{weighs_nine, stops_nine}
use Rattle.plan_eval_made.proofs.ends.number.Goals as goal

pub returns-then-not-pays-clause-flows : goal.returns-then-not-pays-clause-flows
returns-then-not-pays-clause-flows c = λ s m. stops_nine c.args.n (joined_state c.args.run.now.state m) (joined_state c.pays.new.self m) WorkSpent (c.if-not-pays.ensures.unpaid refl m)

pub returns-clause-flows : goal.returns-clause-flows
returns-clause-flows c = λ s m.
    c.put.ensures.flows s (weighed_value (value.Int c.args.n) (now c.args.run.now m)) m
    (weighs_nine c.args.n (joined_state c.args.run.now.state m) (joined_state c.pays.new.self m) (c.if-not-pays.ensures.paid refl m)
    ∙ ap (λ (v : Value). gave v (joined_state c.pays.new.self m)) (sym (c.number.ensures ∙ ap value.Int (to_z-of_z w64 c.args.n c.ranges.n))))
