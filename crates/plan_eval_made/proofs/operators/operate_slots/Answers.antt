use Rattle.std.proofs.Common.{◌≡◌, sym, arith, w64, to_z, of_z}
use Rattle.std.proofs.lemmas.Int.{to_z-of_z}
use Rattle.plan_base.specs.declared.tree.Value as value
use Rattle.plan_types_spec.specs.Rules.{binary}
use Rattle.plan_meaning.specs.Run.{and_then, given_value, weighed_value}
use Rattle.plan_eval_state.specs.Flow.{now}
use Rattle.plan_eval_state.proofs.Ending.{flows_same}
use Rattle.plan_eval_made.proofs.Ended.{int_is}
use Rattle.plan_eval_made.proofs.Made.{both_numbers}
use Rattle.plan_eval_made.proofs.operators.operate_slots.Goals as goal

pub returns-in-Some-as_number-clause-flows : goal.returns-in-Some-as_number-clause-flows
returns-in-Some-as_number-clause-flows c = λ s k.
    let left : to_z w64 (of_z w64 c.in-Some.m) ≡ c.in-Some.m = grind (arith, to_z-of_z) in
    let right : to_z w64 (of_z w64 c.in-Some-as_number.n) ≡ c.in-Some-as_number.n = grind (arith, to_z-of_z) in
    flows_same s c.args.run.now.stack (and_then (given_value (binary c.args.op c.args.x c.args.y) (now c.args.run.now k)) weighed_value)
    (and_then (given_value (binary c.args.op (value.Int c.in-Some.m) (value.Int c.in-Some-as_number.n)) (now c.args.run.now k)) weighed_value)
    c.compute.result c.compute.new.run k c.compute.ensures.settled
    (both_numbers c.args.op c.args.x c.args.y c.in-Some.m c.in-Some-as_number.n (now c.args.run.now k) (int_is c.args.x c.in-Some.m (sym c.in-Some.ensures))
    (int_is c.args.y c.in-Some-as_number.n (sym c.in-Some-as_number.ensures)))
    (rw (left, right) at (c.compute.ensures.flows s k))
