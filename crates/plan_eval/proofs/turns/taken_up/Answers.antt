use Rattle.std.proofs.Common.{refl}
use Rattle.plan_eval_state.specs.declared.continuation.Continuation.TheVariants.{Try}
use Rattle.plan_eval_state.specs.declared.progress.Progress.TheVariants as came
use Rattle.plan_eval.specs.declared.task.Task.TheVariants as task
use Rattle.plan_eval.proofs.Turning.{try_taken, turn_has, turned_by}
use Rattle.plan_eval.proofs.turns.taken_up.Goals as goal

pub at_innermost-requires-clause-found : goal.at_innermost-requires-clause-found
at_innermost-requires-clause-found g c =
    let n = g.S.Services.stands c.args.svc.now in
    let e = c.requires.going in
    turn_has c.args.first (Try c.args.height) c.args.conts.now came.Raised c.args.run.now c.args.run.now n (task.Catch c.args.height) refl refl e.first e.pre e.top e.begins e.safe e.runs
    (try_taken e.first e.pre e.top c.args.conts.now c.args.run.now n c.args.height e.runs)

pub returns : goal.returns
returns g c =
    let n = g.S.Services.stands c.args.svc.now in
    let e = c.requires.going in
    turned_by c.args.first (Try c.args.height) c.args.conts.now came.Raised c.args.run.now c.args.run.now n (task.Catch c.args.height) refl refl
    c.at_innermost.result c.at_innermost.new.run (g.S.Services.stands c.at_innermost.new.svc) e.first e.pre e.top e.begins e.safe e.runs (λ run m first pre top h. h) refl
    (λ first pre top r. try_taken first pre top c.args.conts.now c.args.run.now n c.args.height r) (λ h. h) c.at_innermost.ensures
