use Rattle.std.proofs.Common.{◌+◌, refl}
use Rattle.plan_eval_state.specs.declared.continuation.Continuation.TheVariants.{Part}
use Rattle.plan_eval_state.specs.declared.progress.Progress.TheVariants as came
use Rattle.plan_eval.specs.declared.task.Task.TheVariants as task
use Rattle.plan_eval.proofs.Turning.{part_taken, turn_has, turned_by}
use Rattle.plan_eval.proofs.turns.behind.Goals as goal

pub at_innermost-requires-clause-found : goal.at_innermost-requires-clause-found
at_innermost-requires-clause-found g c =
    let n = g.S.Services.stands c.args.svc.now in
    let e = c.requires.going in
    turn_has c.args.first (Part c.args.n) c.args.conts.now came.Done c.args.run.now c.args.run.now n (task.Behind (c.args.n + 1)) refl refl e.first e.pre e.top e.begins e.safe e.runs
    (part_taken e.first e.pre e.top c.args.conts.now c.args.run.now n c.args.n e.runs)

pub returns : goal.returns
returns g c =
    let n = g.S.Services.stands c.args.svc.now in
    let e = c.requires.going in
    turned_by c.args.first (Part c.args.n) c.args.conts.now came.Done c.args.run.now c.args.run.now n (task.Behind (c.args.n + 1)) refl refl
    c.at_innermost.result c.at_innermost.new.run (g.S.Services.stands c.at_innermost.new.svc) e.first e.pre e.top e.begins e.safe e.runs (λ run m first pre top h. h) refl
    (λ first pre top r. part_taken first pre top c.args.conts.now c.args.run.now n c.args.n r) (λ h. h) c.at_innermost.ensures
