use Rattle.plan_eval_made.proofs.Clauses.{clause_ends}
use Rattle.plan_eval_made.proofs.catching.clause_for.Goals as goal

pub returns : goal.returns
returns c = clause_ends c.args.clauses.now c.loop-rest.rest.now c.args.x.now c.loop-rest.number c.loop-rest.invariant.0 c.in_default.len_below
