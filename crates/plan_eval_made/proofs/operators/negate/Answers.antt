use Rattle.std.proofs.Common.{[], ◌∷◌, ◌++◌, reverse, not, ap, sym, ◌∙◌, subst}
use Rattle.plan_base.specs.declared.tree.Expr.{Expr-F}
use Rattle.plan_base.specs.declared.tree.Value as value
use Rattle.plan_meaning.specs.State.{joined_state}
use Rattle.plan_meaning.specs.Run.{weighed_value}
use Rattle.plan_eval_state.specs.Spots.{layer}
use Rattle.plan_eval_state.specs.Flow.{now}
use Rattle.plan_eval_state.specs.Laws.{makes}
use Rattle.plan_eval_made.proofs.Made.{one_held, as_many_as, ended_under, not_makes, not_wrong, turned_one, stays_wrong}
use Rattle.plan_eval_made.proofs.operators.negate.Goals as goal

pub returns-in-Some-clause-made : goal.returns-in-Some-clause-made
returns-in-Some-clause-made c = λ s a form held pre n is all.
    let one = one_held held (as_many_as (layer s) (Expr-F.Not a) held form all) in
    let test = c.in-Some.ensures.test one.0 pre (is ∙ ap (λ l. l ++ pre) one.1) in
    ended_under s c.args.run.now c.pop_test.new.run pre (makes s (reverse held)) (weighed_value (value.Bool (not c.in-Some.b)) (now c.pop_test.new.run n)) c.truth.result c.truth.new.run n
    c.in-Some.ensures.stays test.1 c.truth.ensures.settled
    (turned_one s held one.0 (now c.pop_test.new.run n) one.1 ∙ not_makes s (now c.pop_test.new.run n) a one.0 c.in-Some.b form (sym test.0))
    (c.truth.ensures.flows s n)

pub returns-in-None-clause-made : goal.returns-in-None-clause-made
returns-in-None-clause-made c = λ s a form held pre n is all.
    let one = one_held held (as_many_as (layer s) (Expr-F.Not a) held form all) in
    let test = c.in-None.ensures.test one.0 pre (is ∙ ap (λ l. l ++ pre) one.1) in
    stays_wrong s (makes s (reverse held)) c.args.run.now c.pop_test.new.run n c.in-None.ensures.stays (not_wrong s a held one.0 (now c.pop_test.new.run n) form one.1 (sym test.0))
