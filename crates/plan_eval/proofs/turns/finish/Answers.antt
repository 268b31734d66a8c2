use Rattle.std.proofs.Common.{◌∷◌, refl}
use Rattle.plan_eval_state.specs.declared.progress.Progress.TheVariants as came
use Rattle.plan_eval.proofs.Turning.{loops_begin, loops_on, ends_other}
use Rattle.plan_eval.proofs.turns.finish.Goals as goal

pub loop-how-init : goal.loop-how-init
loop-how-init g c = loops_begin c.args.first c.args.came c.args.run.now (g.S.Services.stands c.args.svc.now) c.new-conts.result c.new-conts.ensures c.requires.going

pub loop-how-preserved-in-Wait : goal.loop-how-preserved-in-Wait
loop-how-preserved-in-Wait g c =
    loops_on c.args.first c.args.came c.args.run.now (g.S.Services.stands c.args.svc.now) c.loop-how.conts c.loop-how.conts c.wake-how.new.conts c.loop-how.how came.Wait c.wake-how.result
    c.loop-how.run c.wake-how.new.run (g.S.Services.stands c.loop-how.svc) (g.S.Services.stands c.wake-how.new.svc) c.loop-how.invariant refl c.in-Wait.is c.wake-how.ensures

pub loop-how-preserved-in-Some : goal.loop-how-preserved-in-Some
loop-how-preserved-in-Some g c =
    loops_on c.args.first c.args.came c.args.run.now (g.S.Services.stands c.args.svc.now) c.loop-how.conts (c.in-Some.k ∷ c.pop.new.self) c.pop.new.self c.loop-how.how came.Done c.go_on-how.result
    c.loop-how.run c.go_on-how.new.run (g.S.Services.stands c.loop-how.svc) (g.S.Services.stands c.go_on-how.new.svc) c.loop-how.invariant c.in-Some.ensures c.in-Done.is c.go_on-how.ensures

pub loop-how-preserved : goal.loop-how-preserved
loop-how-preserved g c =
    loops_on c.args.first c.args.came c.args.run.now (g.S.Services.stands c.args.svc.now) c.loop-how.conts (c.in-Some-pop.k ∷ c.pop-in-Raised.new.self) c.pop-in-Raised.new.self c.loop-how.how came.Raised
    c.raised-how.result c.loop-how.run c.raised-how.new.run (g.S.Services.stands c.loop-how.svc) (g.S.Services.stands c.raised-how.new.svc) c.loop-how.invariant c.in-Some-pop.ensures c.in-Raised.is c.raised-how.ensures

pub returns-in_default-clause-ends : goal.returns-in_default-clause-ends
returns-in_default-clause-ends g c = λ s pre top begins safe r.
    ends_other s pre top c.loop-how.conts c.loop-how.how c.loop-how.run (g.S.Services.stands c.loop-how.svc) c.in_default.not-Done c.in_default.not-Wait c.in_default.not-Raised safe
    (c.loop-how.invariant.runs s pre top begins safe r).1
