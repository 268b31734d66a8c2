use Rattle.std.proofs.Common.{[], ◌∷◌, reverse, ap, sym, ◌∙◌, subst}
use Rattle.plan_types_spec.specs.Rules.{part}
use Rattle.plan_base.specs.declared.tree.Expr.{Expr-F}
use Rattle.plan_meaning.specs.Run.{and_then, given_value, weighed_value}
use Rattle.visit_state.specs.Meets.{MeetsGiven}
use Rattle.plan_eval_state.specs.Spots.{layer}
use Rattle.plan_eval_state.specs.Flow.{now}
use Rattle.plan_eval_made.proofs.Made.{one_under, as_many_as, ended_held, meets_given, part_makes}
use Rattle.plan_eval_made.proofs.operators.select.Goals as goal

pub returns-in-Some-clause-made : goal.returns-in-Some-clause-made
returns-in-Some-clause-made c = λ s a form held pre n is all.
    let off = one_under c.args.run.now.stack c.pop.new.self held pre c.in-Some.slot c.in-Some.ensures is (as_many_as (layer s) (Expr-F.Part c.args.i a) held form all) in
    ended_held s c.pop.new.self pre held (c.in-Some.slot ∷ []) (now c.args.run.now n) (and_then (given_value (part c.args.i c.in-Some.slot) (now c.args.run.now n)) weighed_value)
    c.answer.result c.answer.new.run n off.1 (ap reverse off.0) c.answer.ensures.settled (part_makes s (now c.args.run.now n) c.args.i a c.in-Some.slot form)
    (c.answer.ensures.flows s (given_value (part c.args.i c.in-Some.slot) (now c.args.run.now n)) n
    (meets_given (part c.args.i c.in-Some.slot) c.part-given.result (now c.args.run.now n)
    (subst (λ v. MeetsGiven (part c.args.i v) c.part-given.result) c.get.ensures c.part-given.ensures)))
