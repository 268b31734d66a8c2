use Rattle.std.proofs.Common.{◌≡◌, [], Err, refl, sym, ap, ◌∙◌, subst, arith}
use Rattle.plan_base.specs.declared.tree.Op.TheVariants as op
use Rattle.plan_base.specs.declared.tree.Value.{out-Value}
use Rattle.plan_types_spec.specs.Rules as rules
use Rattle.plan_meaning.specs.State.{joined_state}
use Rattle.plan_meaning.specs.Run.{stopped, and_then, given_value, weighed_value}
use Rattle.visit_state.specs.Meets.{MeetsUnweighed}
use Rattle.plan_eval_state.specs.Flow.{now}
use Rattle.plan_eval_state.proofs.Ending.{flows_same}
use Rattle.plan_eval_made.proofs.Consing.{too_heavy, weight_of, nesting_of, light_ends, cons_stops}
use Rattle.plan_eval_made.proofs.operators.put_first.Goals as goal

pub returns-then-weight-gt16384-clause-flows : goal.returns-then-weight-gt16384-clause-flows
returns-then-weight-gt16384-clause-flows c = λ s m.
    let made : rules.put_first c.args.x (out-Value c.args.xs) ≡ rules.limited_value c.in-Ok.list = rw (c.into_value.ensures, c.into_value-2.ensures) at c.in-Ok.ensures in
    c.stopped.ensures.flows s [] c.args.run.now.stack (and_then (given_value (rules.binary op.Cons c.args.x c.args.xs) (now c.args.run.now m)) weighed_value) m refl
    (λ other. too_heavy c.args.x c.args.xs c.in-Ok.list made c.weight.result c.weight-2.result c.saturating_add-weight.result 18446744073709551615 c.weight.ensures c.weight-2.ensures
    c.saturating_add-weight.ensures (omega arith) c.if-weight-gt16384.true (now c.args.run.now m) ∙ ap (λ e. stopped e (now c.args.run.now m)) (sym (c.too_large.ensures other)))

pub weighed-requires-clause-weight : goal.weighed-requires-clause-weight
weighed-requires-clause-weight c =
    let made : rules.put_first c.args.x (out-Value c.args.xs) ≡ rules.limited_value c.in-Ok.list = rw (c.into_value.ensures, c.into_value-2.ensures) at c.in-Ok.ensures in
    weight_of c.args.x c.args.xs c.in-Ok.list made c.weight.result c.weight-2.result c.saturating_add-weight.result 18446744073709551615 c.weight.ensures c.weight-2.ensures
    c.saturating_add-weight.ensures (omega arith) (omega (arith, c.if-weight-gt16384.false))

pub weighed-requires-clause-nesting : goal.weighed-requires-clause-nesting
weighed-requires-clause-nesting c =
    let made : rules.put_first c.args.x (out-Value c.args.xs) ≡ rules.limited_value c.in-Ok.list = rw (c.into_value.ensures, c.into_value-2.ensures) at c.in-Ok.ensures in
    nesting_of c.args.x c.args.xs c.in-Ok.list made c.weight.result c.weight-2.result c.saturating_add-weight.result 18446744073709551615 c.weight.ensures c.weight-2.ensures
    c.saturating_add-weight.ensures (omega arith) (omega (arith, c.if-weight-gt16384.false)) c.nesting.result c.nesting-2.result c.max-nesting.result 4294967295 c.nesting.ensures c.nesting-2.ensures
    c.max-nesting.ensures

pub returns-else-weight-gt16384-clause-flows : goal.returns-else-weight-gt16384-clause-flows
returns-else-weight-gt16384-clause-flows c = λ s m.
    let made : rules.put_first c.args.x (out-Value c.args.xs) ≡ rules.limited_value c.in-Ok.list = rw (c.into_value.ensures, c.into_value-2.ensures) at c.in-Ok.ensures in
    flows_same s c.args.run.now.stack (and_then (given_value (rules.binary op.Cons c.args.x c.args.xs) (now c.args.run.now m)) weighed_value)
    (weighed_value c.weighed.result (now c.args.run.now m)) c.give.result c.give.new.run m c.give.ensures.settled
    (light_ends c.args.x c.args.xs c.in-Ok.list made c.weight.result c.weight-2.result c.saturating_add-weight.result 18446744073709551615 c.weight.ensures c.weight-2.ensures
    c.saturating_add-weight.ensures (omega arith) (omega (arith, c.if-weight-gt16384.false)) (now c.args.run.now m) ∙ ap (λ v. (weighed_value v (now c.args.run.now m)).after) (sym c.weighed.ensures))
    (c.give.ensures.flows s m)

pub returns-in-Err-clause-flows : goal.returns-in-Err-clause-flows
returns-in-Err-clause-flows c = λ s m.
    c.stopped-in-Err.ensures.flows s [] c.args.run.now.stack (and_then (given_value (rules.binary op.Cons c.args.x c.args.xs) (now c.args.run.now m)) weighed_value) m refl
    (λ other. cons_stops c.args.x c.args.xs c.in-Err.why (now c.args.run.now m)
    (subst (λ v. MeetsUnweighed (rules.put_first c.args.x (out-Value v)) (Err c.in-Err.why)) c.into_value-2.ensures
    (subst (λ v. MeetsUnweighed (rules.put_first v (out-Value c.into_value-2.result)) (Err c.in-Err.why)) c.into_value.ensures c.in-Err.ensures)) other)
