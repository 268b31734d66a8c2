use Rattle.plan_eval_state.specs.Flow.{now}
use Rattle.plan_eval.proofs.Starting.{enters_ready, enters_safe, enters_going, enters_ends}
use Rattle.plan_eval.proofs.start.run_entry.Goals as goal

pub returns-in_default-clause-ends : goal.returns-in_default-clause-ends
returns-in_default-clause-ends g c = c.in_default.ensures.none (now c.args.run.now (g.S.Services.stands c.args.svc.now))

pub evaluate-came-requires-clause-ready : goal.evaluate-came-requires-clause-ready
evaluate-came-requires-clause-ready g c = enters_ready c.args.chunk.now c.args.run.now c.in-Some.here (g.S.Services.stands c.args.svc.now) c.requires.start c.in-Some.ensures.some

pub evaluate-came-requires-clause-safe : goal.evaluate-came-requires-clause-safe
evaluate-came-requires-clause-safe g c = enters_safe c.args.chunk.now c.args.run.now c.in-Some.here (g.S.Services.stands c.args.svc.now) c.requires.start c.in-Some.ensures.some c.requires.safe

pub finish-requires-clause-going : goal.finish-requires-clause-going
finish-requires-clause-going g c =
    enters_going c.args.chunk.now c.args.run.now c.in-Some.here (g.S.Services.stands c.args.svc.now) c.requires.start c.in-Some.ensures.some c.evaluate-came.result c.evaluate-came.new.run
    (g.S.Services.stands c.evaluate-came.new.svc) c.evaluate-came.ensures.grown c.evaluate-came.ensures.flows c.requires.safe

pub returns-clause-ends : goal.returns-clause-ends
returns-clause-ends g c =
    enters_ends c.args.chunk.now c.args.run.now c.in-Some.here (g.S.Services.stands c.args.svc.now) c.requires.start c.in-Some.ensures.some c.evaluate-came.result c.evaluate-came.new.run
    (g.S.Services.stands c.evaluate-came.new.svc) c.evaluate-came.ensures.grown c.evaluate-came.ensures.flows c.finish.result c.finish.new.run (g.S.Services.stands c.finish.new.svc) c.requires.safe
    c.finish.ensures.ends
