use Rattle.std.proofs.Common.{reverse, take, drop, sym, ap}
use Rattle.std.proofs.lemmas.List.{take-append-drop, length-take-le}
use Rattle.plan_meaning.specs.State.{joined_state}
use Rattle.plan_eval_state.specs.Flow.{now}
use Rattle.plan_eval_made.proofs.Made.{safe_served}
use Rattle.plan_eval_made.proofs.calls.service_call.Goals as goal

pub ask_service-given-requires-clause-safe : goal.ask_service-given-requires-clause-safe
ask_service-given-requires-clause-safe g c =
    safe_served c.args.d.now c.into_values-args.result c.in-Ok.row (reverse (take c.args.n c.args.run.now.stack)) (joined_state c.take_row.new.run.state (g.S.Services.stands c.args.svc.now))
    (now c.args.run.now (g.S.Services.stands c.args.svc.now)) c.into_values-args.ensures
    (c.in-Ok.ensures.row (take c.args.n c.args.run.now.stack) (drop c.args.n c.args.run.now.stack) (sym (take-append-drop c.args.n c.args.run.now.stack)) (length-take-le c.args.n c.args.run.now.stack c.requires.high))
    (ap (λ o. joined_state o (g.S.Services.stands c.args.svc.now)) c.in-Ok.ensures.stays.state) c.requires.safe
