use Rattle.std.proofs.Common.{[], ◌∷◌, refl, sym, ap, ◌∙◌, subst, w64}
use Rattle.std.proofs.lemmas.Int.{to_z-of_z}
use Rattle.plan_base.specs.declared.tree.Value as value
use Rattle.plan_types_spec.specs.Rules.{binary}
use Rattle.plan_meaning.specs.State.{joined_state}
use Rattle.plan_meaning.specs.Run.{and_then, given_value, weighed_value}
use Rattle.plan_eval_state.specs.Laws.{at_part}
use Rattle.plan_eval_state.specs.Flow.{now, Flows}
use Rattle.plan_eval_state.proofs.Ending.{flows_same}
use Rattle.plan_eval_state.proofs.Flowing.{flows_led}
use Rattle.plan_eval_made.specs.Comes.{pending}
use Rattle.plan_eval_made.proofs.Rows.{heads}
use Rattle.plan_eval_made.proofs.Made.{one_under, same_operands}
use Rattle.plan_eval_made.proofs.Weighing.{right_safe, right_spent, right_came}
use Rattle.plan_eval_made.proofs.operators.operate_on.Goals as goal

pub returns-then-not-number_paid-clause-flows : goal.returns-then-not-number_paid-clause-flows
returns-then-not-number_paid-clause-flows c = λ s a b v pre m form is number safe.
    right_spent s c.args.op a b form v (now c.args.run.now m) (joined_state c.number_paid.new.state m) safe
    (c.if-not-number_paid.ensures.unpaid refl (at_part s b) c.args.y m number (right_safe s c.args.op a b form v (now c.args.run.now m) safe))

pub returns-in-Some-clause-flows : goal.returns-in-Some-clause-flows
returns-in-Some-clause-flows c = λ s a b v pre m form is number safe.
    let off = one_under c.args.run.now.stack c.pop.new.self (v ∷ []) pre c.in-Some.x c.in-Some.ensures is refl in
    let last = right_came s c.args.op a b form v (value.Int c.args.y) (now c.args.run.now m) (joined_state c.number_paid.new.state m)
    (c.if-not-number_paid.ensures.paid refl (at_part s b) c.args.y m number (right_safe s c.args.op a b form v (now c.args.run.now m) safe)) in
    flows_led s pre (pending s (v ∷ []) (now c.args.run.now m)) (and_then (given_value (binary c.args.op v (value.Int c.args.y)) (joined_state c.number_paid.new.state m)) weighed_value)
    c.operate_slots.result c.operate_slots.new.run m safe last
    (subst (λ l. Flows s l (and_then (given_value (binary c.args.op v (value.Int c.args.y)) (joined_state c.number_paid.new.state m)) weighed_value) c.operate_slots.result c.operate_slots.new.run m) off.1
    (flows_same s c.pop.new.self (and_then (given_value (binary c.args.op v (value.Int c.args.y)) (joined_state c.number_paid.new.state m)) weighed_value)
    (and_then (given_value (binary c.args.op c.in-Some.x c.number.result) (joined_state c.number_paid.new.state m)) weighed_value) c.operate_slots.result c.operate_slots.new.run m
    c.operate_slots.ensures.settled
    (same_operands c.args.op c.in-Some.x c.number.result v (value.Int c.args.y) (joined_state c.number_paid.new.state m) (heads v c.in-Some.x [] [] off.0)
    (sym (c.number.ensures ∙ ap value.Int (to_z-of_z w64 c.args.y c.ranges.y))))
    (c.operate_slots.ensures.flows s m)))
