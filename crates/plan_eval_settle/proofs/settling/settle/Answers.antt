use Rattle.plan_eval_settle.proofs.Sums.{ok_balance}
use Rattle.plan_eval_settle.proofs.settling.settle.Goals as goal

pub returns-clause-balance : goal.returns-clause-balance
returns-clause-balance c = ok_balance c.args.p.now c.args.ctx.now c.args.v c.settle_by.result c.settle_by.ensures
