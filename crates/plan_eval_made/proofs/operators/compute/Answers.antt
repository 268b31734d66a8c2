use Rattle.std.proofs.Common.{◌≡◌, arith, w64, to_z, of_z}
use Rattle.std.proofs.lemmas.Int.{to_z-of_z}
use Rattle.plan_base.specs.declared.tree.Value as value
use Rattle.plan_types_spec.specs.Rules as rules
use Rattle.plan_meaning.specs.Run.{and_then, given_value, weighed_value}
use Rattle.plan_eval_state.specs.Flow.{now}
use Rattle.plan_eval_state.proofs.Ending.{flows_same}
use Rattle.plan_eval_made.proofs.Counted.{by_numbers}
use Rattle.plan_eval_made.proofs.Made.{given_ends}
use Rattle.plan_eval_made.proofs.operators.compute.Goals as goal

pub returns-in-Some-clause-flows : goal.returns-in-Some-clause-flows
returns-in-Some-clause-flows c = λ s m.
    let same : to_z w64 (of_z w64 c.in-Some.n) ≡ c.in-Some.n = grind (arith, to_z-of_z) in
    flows_same s c.args.run.now.stack (and_then (given_value (rules.binary c.args.op (value.Int c.args.x) (value.Int c.args.y)) (now c.args.run.now m)) weighed_value)
    (weighed_value (value.Int c.in-Some.n) (now c.args.run.now m)) c.number.result c.number.new.run m c.number.ensures.settled
    (given_ends (rules.binary c.args.op (value.Int c.args.x) (value.Int c.args.y)) (value.Int c.in-Some.n) (now c.args.run.now m)
    (by_numbers c.args.op c.args.x c.args.y c.in-Some.n (rw (to_z-of_z w64 c.args.x c.ranges.x, to_z-of_z w64 c.args.y c.ranges.y) at c.in-Some.ensures)))
    (rw same at (c.number.ensures.flows s m))

pub returns-in-Some-order_of-clause-flows : goal.returns-in-Some-order_of-clause-flows
returns-in-Some-order_of-clause-flows c = λ s m.
    flows_same s c.args.run.now.stack (and_then (given_value (rules.binary c.args.op (value.Int c.args.x) (value.Int c.args.y)) (now c.args.run.now m)) weighed_value)
    (weighed_value (value.Bool c.in-Some-order_of.b) (now c.args.run.now m)) c.truth.result c.truth.new.run m c.truth.ensures.settled
    (given_ends (rules.binary c.args.op (value.Int c.args.x) (value.Int c.args.y)) (value.Bool c.in-Some-order_of.b) (now c.args.run.now m)
    (rw (to_z-of_z w64 c.args.x c.ranges.x, to_z-of_z w64 c.args.y c.ranges.y) at c.in-Some-order_of.ensures))
    (c.truth.ensures.flows s m)
