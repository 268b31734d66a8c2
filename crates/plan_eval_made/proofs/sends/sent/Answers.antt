use Rattle.std.proofs.Common.{[], refl}
use Rattle.plan_base.specs.declared.tree.Value as value
use Rattle.plan_meaning.specs.Run.{and_then, pure, weighed_value}
use Rattle.plan_eval_state.specs.Flow.{now}
use Rattle.plan_eval_state.proofs.Ending.{flows_same}
use Rattle.plan_eval_made.proofs.Made.{sent_gives, unsent}
use Rattle.plan_eval_made.proofs.sends.sent.Goals as goal

pub returns-in-Ok-clause-flows : goal.returns-in-Ok-clause-flows
returns-in-Ok-clause-flows c = λ s want m meets.
    flows_same s c.args.run.now.stack (and_then (and_then want (λ _. pure value.Unit)) weighed_value) (weighed_value c.of.result (now c.args.run.now m)) c.give.result c.give.new.run m c.give.ensures.settled
    (sent_gives want c.args.given c.in-Ok.field-0 c.of.result (now c.args.run.now m) c.in-Ok.is c.of.ensures meets) (c.give.ensures.flows s m)

pub returns-in-Err-clause-flows : goal.returns-in-Err-clause-flows
returns-in-Err-clause-flows c = λ s want m meets.
    c.stopped.ensures.flows s [] c.args.run.now.stack (and_then (and_then want (λ _. pure value.Unit)) weighed_value) m refl
    (λ other. unsent want c.args.given c.in-Err.why (now c.args.run.now m) c.in-Err.is meets other)
