use Rattle.std.proofs.Common.{[], ◌∷◌, reverse, ap}
use Rattle.plan_base.specs.declared.tree.Expr.{Expr-F}
use Rattle.plan_types_spec.specs.Rules.{binary}
use Rattle.plan_meaning.specs.Run.{and_then, given_value, weighed_value}
use Rattle.plan_eval_state.specs.Spots.{layer}
use Rattle.plan_eval_state.specs.Flow.{now}
use Rattle.plan_eval_made.proofs.Made.{two_under, one_alone, as_many_as, ended_held, binary_makes}
use Rattle.plan_eval_made.proofs.operators.operate.Goals as goal

pub returns-in-Some-pop-clause-made : goal.returns-in-Some-pop-clause-made
returns-in-Some-pop-clause-made c = λ s a b form held pre n is all.
    let off = two_under c.args.run.now.stack c.pop.new.self c.pop-2.new.self held pre c.in-Some.y c.in-Some-pop.x c.in-Some.ensures c.in-Some-pop.ensures is
    (as_many_as (layer s) (Expr-F.Binary c.args.op a b) held form all) in
    ended_held s c.pop-2.new.self pre held (c.in-Some-pop.x ∷ c.in-Some.y ∷ []) (now c.args.run.now n)
    (and_then (given_value (binary c.args.op c.in-Some-pop.x c.in-Some.y) (now c.args.run.now n)) weighed_value)
    c.operate_slots.result c.operate_slots.new.run n off.1 (ap reverse off.0) c.operate_slots.ensures.settled
    (binary_makes s (now c.args.run.now n) c.args.op a b c.in-Some-pop.x c.in-Some.y form) (c.operate_slots.ensures.flows s n)

pub returns-in-None-clause-made : goal.returns-in-None-clause-made
returns-in-None-clause-made c = λ s a b form held pre n is all.
    absurd (one_alone c.args.run.now.stack c.pop.new.self held pre c.in-Some.y 0 c.in-Some.ensures c.in-None.ensures.0 is (as_many_as (layer s) (Expr-F.Binary c.args.op a b) held form all))
