use Rattle.std.proofs.Common.{refl}
use Rattle.plan_eval.proofs.Turning.{wake_has, wake_turn}
use Rattle.plan_eval.proofs.turns.wake.Goals as goal

pub at_innermost-requires-clause-found : goal.at_innermost-requires-clause-found
at_innermost-requires-clause-found g c =
    let e = c.requires.going in
    wake_has c.args.first e.first e.pre e.top c.args.conts.now c.args.run.now c.move_over.new.run (g.S.Services.stands c.args.svc.now) c.move_over.new.conts
    (c.if-not-move_over.ensures.moved refl).0 c.move_over.ensures.stack c.move_over.ensures.state c.move_over.ensures.codes e.begins e.safe e.runs

pub returns : goal.returns
returns g c =
    let e = c.requires.going in
    wake_turn c.args.first e.first e.pre e.top c.args.conts.now c.move_over.new.conts c.args.run.now c.move_over.new.run (g.S.Services.stands c.args.svc.now)
    (c.if-not-move_over.ensures.moved refl).0 c.move_over.ensures.stack c.move_over.ensures.state c.move_over.ensures.codes e.begins e.safe e.runs
    c.at_innermost.result c.at_innermost.new.run (g.S.Services.stands c.at_innermost.new.svc) c.at_innermost.ensures
