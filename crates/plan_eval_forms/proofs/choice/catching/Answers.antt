use Rattle.plan_eval_forms.proofs.Catching.{caught_by}
use Rattle.plan_eval_forms.proofs.choice.catching.Goals as goal

pub returns-in-Some : goal.returns-in-Some
returns-in-Some c =
    caught_by c.args.e.now c.in-Try.field-0 c.in-Try.clauses c.as_slice.result.now c.at.result.now c.args.raised.now c.clause_for.result c.in-Some.n c.in-Try.is c.as_slice.ensures
    c.clause_for.ensures c.in-Some.is c.at.ensures
