use Rattle.std.proofs.Common.{refl}
use Rattle.plan_eval_state.specs.declared.continuation.Continuation.TheVariants.{Step}
use Rattle.plan_eval_state.specs.declared.progress.Progress.TheVariants as came
use Rattle.plan_eval.specs.declared.task.Task.TheVariants as task
use Rattle.plan_eval.proofs.Turning.{step_bare, step_codes, step_state, step_taken, turn_has, turned_by}
use Rattle.plan_eval.proofs.turns.stepped.Goals as goal

pub at_innermost-requires-clause-bare : goal.at_innermost-requires-clause-bare
at_innermost-requires-clause-bare g c =
    let e = c.requires.going in
    step_bare e.first e.pre e.top c.args.conts.now c.args.run.now (g.S.Services.stands c.args.svc.now) c.args.step e.runs c.slide.new.run c.slide.ensures

pub at_innermost-requires-clause-found : goal.at_innermost-requires-clause-found
at_innermost-requires-clause-found g c =
    let n = g.S.Services.stands c.args.svc.now in
    let e = c.requires.going in
    turn_has c.args.first (Step c.args.step) c.args.conts.now came.Done c.args.run.now c.slide.new.run n task.Fold
    (step_codes e.first e.pre e.top c.args.conts.now c.args.run.now n c.args.step e.runs c.slide.new.run c.slide.ensures)
    (step_state e.first e.pre e.top c.args.conts.now c.args.run.now n c.args.step e.runs c.slide.new.run c.slide.ensures)
    e.first e.pre e.top e.begins e.safe e.runs (step_taken e.first e.pre e.top c.args.conts.now c.args.run.now n c.args.step e.runs c.slide.new.run c.slide.ensures)

pub returns : goal.returns
returns g c =
    let n = g.S.Services.stands c.args.svc.now in
    let e = c.requires.going in
    turned_by c.args.first (Step c.args.step) c.args.conts.now came.Done c.args.run.now c.slide.new.run n task.Fold
    (step_codes e.first e.pre e.top c.args.conts.now c.args.run.now n c.args.step e.runs c.slide.new.run c.slide.ensures)
    (step_state e.first e.pre e.top c.args.conts.now c.args.run.now n c.args.step e.runs c.slide.new.run c.slide.ensures)
    c.at_innermost.result c.at_innermost.new.run (g.S.Services.stands c.at_innermost.new.svc) e.first e.pre e.top e.begins e.safe e.runs (λ run m first pre top h. h) refl
    (λ first pre top r. step_taken first pre top c.args.conts.now c.args.run.now n c.args.step r c.slide.new.run c.slide.ensures) (λ h. h) c.at_innermost.ensures
