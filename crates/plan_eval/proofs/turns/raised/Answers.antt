use Rattle.plan_eval.proofs.Turning.{passing_turn, passes_by}
use Rattle.plan_eval.proofs.turns.raised.Goals as goal

pub returns-in_default : goal.returns-in_default
returns-in_default g c = passing_turn c.args.first c.args.cont c.args.conts.now c.args.run.now (g.S.Services.stands c.args.svc.now) (passes_by c.args.cont c.in_default.not-Try)
