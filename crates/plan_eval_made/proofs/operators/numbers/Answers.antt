use Rattle.std.proofs.Common.{[], ◌∷◌, refl, ◌∙◌, w64}
use Rattle.std.proofs.lemmas.Int.{to_z-of_z}
use Rattle.plan_base.specs.declared.tree.Value as value
use Rattle.plan_types_spec.specs.Rules.{binary}
use Rattle.plan_meaning.specs.State.{joined_state}
use Rattle.plan_meaning.specs.Run.{and_then, given_value, weighed_value}
use Rattle.plan_eval_state.specs.Laws.{at_part}
use Rattle.plan_eval_state.specs.Spots.{begins}
use Rattle.plan_eval_state.specs.Flow.{now}
use Rattle.plan_eval_state.proofs.Leading.{onward}
use Rattle.plan_eval_state.proofs.Flowing.{flows_led}
use Rattle.plan_eval_made.proofs.Weighing.{left_safe, left_spent, left_came, right_safe, right_spent, right_came}
use Rattle.plan_eval_made.proofs.operators.numbers.Goals as goal

pub returns-then-not-number_paid-clause-flows : goal.returns-then-not-number_paid-clause-flows
returns-then-not-number_paid-clause-flows c = λ s a b m form safe left right.
    left_spent s c.args.op a b form (now c.args.run.now m) (joined_state c.number_paid.new.state m) safe
    (c.if-not-number_paid.ensures.unpaid refl (at_part s a) c.args.x m left (left_safe s c.args.op a b form (now c.args.run.now m) safe))

pub returns-then-not-number_paid-2-clause-flows : goal.returns-then-not-number_paid-2-clause-flows
returns-then-not-number_paid-2-clause-flows c = λ s a b m form safe left right.
    let first = left_came s c.args.op a b form (value.Int c.args.x) (now c.args.run.now m) (joined_state c.number_paid.new.state m)
    (c.if-not-number_paid.ensures.paid refl (at_part s a) c.args.x m left (left_safe s c.args.op a b form (now c.args.run.now m) safe)) in
    first.same safe ∙ right_spent s c.args.op a b form (value.Int c.args.x) (joined_state c.number_paid.new.state m) (joined_state c.number_paid-2.new.state m) (first.safe safe)
    (c.if-not-number_paid-2.ensures.unpaid refl (at_part s b) c.args.y m right
    (right_safe s c.args.op a b form (value.Int c.args.x) (joined_state c.number_paid.new.state m) (first.safe safe)))

pub returns-clause-flows : goal.returns-clause-flows
returns-clause-flows c = λ s a b m form safe left right.
    let first = left_came s c.args.op a b form (value.Int c.args.x) (now c.args.run.now m) (joined_state c.number_paid.new.state m)
    (c.if-not-number_paid.ensures.paid refl (at_part s a) c.args.x m left (left_safe s c.args.op a b form (now c.args.run.now m) safe)) in
    let second = right_came s c.args.op a b form (value.Int c.args.x) (value.Int c.args.y) (joined_state c.number_paid.new.state m) (joined_state c.number_paid-2.new.state m)
    (c.if-not-number_paid-2.ensures.paid refl (at_part s b) c.args.y m right
    (right_safe s c.args.op a b form (value.Int c.args.x) (joined_state c.number_paid.new.state m) (first.safe safe))) in
    flows_led s c.args.run.now.stack (begins s (now c.args.run.now m))
    (and_then (given_value (binary c.args.op (value.Int c.args.x) (value.Int c.args.y)) (joined_state c.number_paid-2.new.state m)) weighed_value)
    c.compute.result c.compute.new.run m safe (onward _ _ _ first second)
    (rw (to_z-of_z w64 c.args.x c.ranges.x, to_z-of_z w64 c.args.y c.ranges.y) at (c.compute.ensures.flows s m))
