use Rattle.std.proofs.Common.{[], refl}
use Rattle.plan_meaning.specs.Run.{and_then, weighed_value}
use Rattle.plan_eval_state.specs.Flow.{now}
use Rattle.plan_eval_state.proofs.Ending.{flows_same, gave_weighed, stopped_weighed}
use Rattle.plan_eval_state.proofs.run.answer.Goals as goal

pub returns-in-Ok-clause-flows : goal.returns-in-Ok-clause-flows
returns-in-Ok-clause-flows c = λ s want n meets.
    flows_same s c.args.run.now.stack (and_then want weighed_value) (weighed_value c.of.result (now c.args.run.now n)) c.give.result c.give.new.run n c.give.ensures.settled
    (gave_weighed want c.args.given c.in-Ok.v c.of.result (now c.args.run.now n) c.in-Ok.is c.of.ensures meets) (c.give.ensures.flows s n)

pub returns-in-Err-clause-flows : goal.returns-in-Err-clause-flows
returns-in-Err-clause-flows c = λ s want n meets.
    c.stopped.ensures.flows s [] c.args.run.now.stack (and_then want weighed_value) n refl
    (λ other. stopped_weighed want c.args.given c.in-Err.why (now c.args.run.now n) c.in-Err.is meets other)
