-- A greater allowance gives the same visit.
use Rattle.std.proofs.Common.{◌≡◌, ◌≢◌, ℕ, ◌+◌, ◌-◌, ◌≤◌, sym, ap, ◌∙◌, subst, arith}
use Rattle.plan_base.specs.declared.ids.Family.{Family}
use Rattle.plan_base.specs.declared.tree.Chunk.{Chunk}
use Rattle.plan_base.specs.declared.tree.Value.{Value}
use Rattle.service_api.specs.declared.ctx.Ctx.{Ctx}
use Rattle.service_api.specs.Services.{ServiceState}
use Rattle.plan_meaning.specs.declared.stop.EvalStop.TheVariants.{Raised, WorkSpent, Wrong, NoMemory}
use Rattle.plan_meaning.specs.declared.outcome.Outcome.{Outcome}
use Rattle.plan_meaning.specs.declared.outcome.Outcome.TheVariants as outcome
use Rattle.plan_meaning.specs.declared.outcome.Visit.{Visit}
use Rattle.plan_meaning.specs.State.{VisitState}
use Rattle.plan_meaning.specs.Run.{After, gave, stopped, RunStep}
use Rattle.plan_meaning.specs.Visit.{IsVisit, Ends, begun_state, ended_visit}
use Rattle.plan_meaning.specs.Laws.{IsSpent, more, after_more, with_allowance}
use Rattle.plan_meaning.proofs.Longer.{visit_allowance}
use Rattle.plan_meaning.proofs.Allowances.{visits_alike, spent_exactly}
use Rattle.plan_eval.specs.Given.{GivesAlone}

-- the work that is spent is the same
ended_alike : (v k : ℕ) (how : Outcome) (s : VisitState) → ended_visit v how s ≡ ended_visit (v + k) how (more k s)
ended_alike v k how s =
    let same : v - s.work ≡ (v + k) - (s.work + k) = omega arith in
    ap (λ n. record { outcome = how; evals = s.evals; left = s.ctx.purse; outbox = s.outbox; notes = s.notes; work = n }) same

-- a visit that ended by itself ends so with more work
ends_again : (v k bound : ℕ) (a : After Value) (r : Visit) (new : ServiceState) → Ends v bound a r new → r.outcome ≢ outcome.WorkSpent → Ends (v + k) bound (after_more k a) r new
ends_again v k bound (gave x s) r new e h = (e.0 ∙ ended_alike v k (outcome.Value x) s, e.1)
ends_again v k bound (stopped (Raised x) s) r new e h = (e.0 ∙ ended_alike v k (outcome.Raised x) s, e.1)
ends_again v k bound (stopped WorkSpent s) r new e h = absurd (h (ap (λ (x : Visit). x.outcome) e.0))
ends_again v k bound (stopped Wrong s) r new e h = absurd e
ends_again v k bound (stopped NoMemory s) r new e h = absurd e

unspent : (v bound : ℕ) (a : After Value) (r : Visit) (new : ServiceState) → Ends v bound a r new → r.outcome ≢ outcome.WorkSpent → ¬ IsSpent a
unspent v bound (gave x s) r new e h i = i
unspent v bound (stopped (Raised x) s) r new e h i = i
unspent v bound (stopped WorkSpent s) r new e h i = h (ap (λ (x : Visit). x.outcome) e.0)
unspent v bound (stopped Wrong s) r new e h i = i
unspent v bound (stopped NoMemory s) r new e h i = i

module _ (k : Chunk) (ctx : Ctx) (family : Family) (n : ServiceState) where
  with_more : (v j : ℕ) (r : Visit) (new : ServiceState) → IsVisit v k ctx family n r new → r.outcome ≢ outcome.WorkSpent → IsVisit (v + j) k ctx family n r new
  unfolding IsVisit
  with_more v j r new e h =
      let a = with_allowance v k ctx family n in
      let later = visit_allowance k (begun_state v ctx family n) j (unspent v ctx.purse a r new e h) in
      subst (λ b. Ends (v + j) ctx.purse b r new) (sym (ap (λ (s : RunStep Value). s.after) later)) (ends_again v j ctx.purse a r new e h)

  pub visit_again : (v w : ℕ) (r : Visit) (new : ServiceState) → v ≤ w → IsVisit v k ctx family n r new → r.outcome ≢ outcome.WorkSpent → IsVisit w k ctx family n r new
  visit_again v w r new l e h =
      let same : v + (w - v) ≡ w = omega arith in
      subst (λ u. IsVisit u k ctx family n r new) same (with_more v (w - v) r new e h)

  -- and nothing else does
  pub gives_alone : (v w : ℕ) (r : Visit) (new : ServiceState) → v ≤ w → IsVisit v k ctx family n r new → r.outcome ≢ outcome.WorkSpent → GivesAlone w k ctx family n r new
  gives_alone v w r new l e h =
      let again = visit_again v w r new l e h in
      record {
        gives = again;
        alone = λ q other i. visits_alike k ctx family n w w q r other new i again (λ s. h ((spent_exactly k ctx family n w r new again).1 ((spent_exactly k ctx family n w q other i).0 s))) h;
      }
