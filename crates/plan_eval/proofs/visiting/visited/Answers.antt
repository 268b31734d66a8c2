use Rattle.std.proofs.Common.{refl}
use Rattle.plan_meaning.specs.State.{joined_state}
use Rattle.plan_eval.specs.Start.{begun_own}
use Rattle.plan_eval.proofs.Visits.{gave_from, raised_from, spent_from}
use Rattle.plan_eval.proofs.visiting.visited.Goals as goal

pub unreachable-requires : goal.unreachable-requires
unreachable-requires c =
    let e = c.requires.right in
    e.right (joined_state c.taken-state.result.0 e.services) ((rw (c.in-Err-Wrong.is, c.in-Err-Wrong.field-0-is) at c.taken-state.ensures e.pre e.want e.services e.ends) (λ same. cc))

pub returns-in-Ok : goal.returns-in-Ok
returns-in-Ok c = λ k ctx family old n pre bound ends.
    gave_from k ctx ctx family old (begun_own ctx family) (refl, refl) c.in-Ok.v
    (joined_state c.taken-state.result.0 n) c.into_visit.result (rw c.in-Ok.is at c.taken-state.ensures pre _ n ends) (c.into_visit.ensures n)

pub returns-in-Err-Raised : goal.returns-in-Err-Raised
returns-in-Err-Raised c = λ k ctx family old n pre bound ends.
    raised_from k ctx ctx family old (begun_own ctx family) (refl, refl) c.in-Err-Raised.x
    c.in-Err-Raised.field-0 (joined_state c.taken-state.result.0 n) c.into_visit-in-Err-Raised.result c.in-Err-Raised.field-0-is (rw c.in-Err-Raised.is at c.taken-state.ensures pre _ n ends)
    (c.into_visit-in-Err-Raised.ensures n)

pub returns-in-Err-WorkSpent : goal.returns-in-Err-WorkSpent
returns-in-Err-WorkSpent c = λ k ctx family old n pre bound ends.
    spent_from k ctx ctx family old (begun_own ctx family) (refl, refl) c.args.bound
    c.in-Err-WorkSpent.field-0 (joined_state c.taken-state.result.0 n) c.visit_without_effect.result bound c.in-Err-WorkSpent.field-0-is (rw c.in-Err-WorkSpent.is at c.taken-state.ensures pre _ n ends)
    c.visit_without_effect.ensures
