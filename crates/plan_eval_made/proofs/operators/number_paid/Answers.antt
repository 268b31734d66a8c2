use Rattle.std.proofs.Common.{refl}
use Rattle.plan_meaning.specs.declared.stop.EvalStop.TheVariants.{WorkSpent}
use Rattle.plan_meaning.specs.State.{joined_state}
use Rattle.plan_eval_state.proofs.Going.{not_begun}
use Rattle.plan_eval_made.proofs.Weighing.{number_comes, number_unweighed}
use Rattle.plan_eval_made.proofs.operators.number_paid.Goals as goal

pub returns-then-not-pays-clause-unpaid : goal.returns-then-not-pays-clause-unpaid
returns-then-not-pays-clause-unpaid c = λ no s i m is safe.
    not_begun s (joined_state c.args.state.now m) WorkSpent (joined_state c.pays.new.self m) (c.if-not-pays.ensures.unpaid refl m)

pub returns-then-not-pays-2-clause-unpaid : goal.returns-then-not-pays-2-clause-unpaid
returns-then-not-pays-2-clause-unpaid c = λ no s i m is safe.
    number_unweighed s i is (joined_state c.args.state.now m) (joined_state c.pays.new.self m) safe (joined_state c.pays-2.new.self m) (c.if-not-pays.ensures.paid refl m) (c.if-not-pays-2.ensures.unpaid refl m)

pub returns-clause-paid : goal.returns-clause-paid
returns-clause-paid c = λ yes s i m is safe.
    number_comes s i is (joined_state c.args.state.now m) (joined_state c.pays.new.self m) safe (joined_state c.pays-2.new.self m) (c.if-not-pays.ensures.paid refl m) (c.if-not-pays-2.ensures.paid refl m)
