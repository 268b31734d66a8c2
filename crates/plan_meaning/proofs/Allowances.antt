-- Visits with different allowances.
use Rattle.std.proofs.Common.{◌≡◌, ◌≢◌, ◌⊎◌, inl, inr, ⊎_elim, ◌↔◌, ℕ, ◌+◌, ◌-◌, ◌≤◌, sym, ap, ◌∙◌, subst, arith}
use Rattle.plan_base.specs.declared.ids.Family.{Family}
use Rattle.plan_base.specs.declared.tree.Chunk.{Chunk}
use Rattle.plan_base.specs.declared.tree.Value.{Value}
use Rattle.service_api.specs.declared.ctx.Ctx.{Ctx}
use Rattle.service_api.specs.Services.{ServiceState}
use Rattle.plan_meaning.specs.declared.stop.EvalStop.TheVariants.{Raised, WorkSpent, Wrong, NoMemory}
use Rattle.plan_meaning.specs.declared.outcome.Outcome.{Outcome}
use Rattle.plan_meaning.specs.declared.outcome.Outcome.TheVariants as outcome
use Rattle.plan_meaning.specs.declared.outcome.Visit.{Visit}
use Rattle.plan_meaning.specs.State.{VisitState}
use Rattle.plan_meaning.specs.Run.{After, gave, stopped, RunStep}
use Rattle.plan_meaning.specs.Safe.{IsGoodState}
use Rattle.plan_meaning.specs.Visit.{IsVisit, Ends, begun_state, ended_visit}
use Rattle.service_api.specs.Services.{IsGoodChunk}
use Rattle.plan_meaning.specs.Laws.{IsSpent, more, after_more, with_allowance, VisitEnds, VisitsAlike, NoneSuffices}
use Rattle.plan_meaning.proofs.Halting.{more_lasts}
use Rattle.plan_meaning.proofs.Longer.{visit_allowance}
use Rattle.plan_meaning.proofs.Sound.{visit_ends}

-- the work that is spent is the same
same_work : (v w k : ℕ) → (v + k) - (w + k) ≡ v - w
same_work v w k = omega arith

ended_more : (v k : ℕ) (how : Outcome) (s : VisitState) → ended_visit (v + k) how (more k s) ≡ ended_visit v how s
ended_more v k how s = ap (λ n. record { outcome = how; evals = s.evals; left = s.ctx.purse; outbox = s.outbox; notes = s.notes; work = n }) (same_work v s.work k)

ends_more : (v k bound : ℕ) (a : After Value) (r : Visit) (new : ServiceState) → ¬ IsSpent a → Ends v bound a r new → Ends (v + k) bound (after_more k a) r new
ends_more v k bound (gave x s) r new n e = (e.0 ∙ sym (ended_more v k (outcome.Value x) s), e.1)
ends_more v k bound (stopped (Raised x) s) r new n e = (e.0 ∙ sym (ended_more v k (outcome.Raised x) s), e.1)
ends_more v k bound (stopped WorkSpent s) r new n e = absurd (n tt)
ends_more v k bound (stopped Wrong s) r new n e = absurd e
ends_more v k bound (stopped NoMemory s) r new n e = absurd e

one_end : (v bound : ℕ) (a : After Value) (q r : Visit) (m o : ServiceState) → Ends v bound a q m → Ends v bound a r o → (q ≡ r) × (m ≡ o)
one_end v bound (gave x s) q r m o e f = (e.0 ∙ sym f.0, e.1 ∙ sym f.1)
one_end v bound (stopped (Raised x) s) q r m o e f = (e.0 ∙ sym f.0, e.1 ∙ sym f.1)
one_end v bound (stopped WorkSpent s) q r m o e f = (e.0 ∙ sym f.0, e.1 ∙ sym f.1)
one_end v bound (stopped Wrong s) q r m o e f = absurd e
one_end v bound (stopped NoMemory s) q r m o e f = absurd e

-- a visit is spent exactly where its evaluation is
spent_outcome : (v bound : ℕ) (a : After Value) (r : Visit) (new : ServiceState) → Ends v bound a r new → IsSpent a → r.outcome ≡ outcome.WorkSpent
spent_outcome v bound (gave x s) r new e h = absurd h
spent_outcome v bound (stopped (Raised x) s) r new e h = absurd h
spent_outcome v bound (stopped WorkSpent s) r new e h = ap (λ (x : Visit). x.outcome) e.0
spent_outcome v bound (stopped Wrong s) r new e h = absurd h
spent_outcome v bound (stopped NoMemory s) r new e h = absurd h

outcome_spent : (v bound : ℕ) (a : After Value) (r : Visit) (new : ServiceState) → Ends v bound a r new → r.outcome ≡ outcome.WorkSpent → IsSpent a
outcome_spent v bound (gave x s) r new e h = let d : outcome.Value x ≡ outcome.WorkSpent = sym (ap (λ (y : Visit). y.outcome) e.0) ∙ h in cc
outcome_spent v bound (stopped (Raised x) s) r new e h = let d : outcome.Raised x ≡ outcome.WorkSpent = sym (ap (λ (y : Visit). y.outcome) e.0) ∙ h in cc
outcome_spent v bound (stopped WorkSpent s) r new e h = tt
outcome_spent v bound (stopped Wrong s) r new e h = absurd e
outcome_spent v bound (stopped NoMemory s) r new e h = absurd e

spent_or_not : (a : After Value) → IsSpent a ⊎ (¬ IsSpent a)
spent_or_not (gave x s) = inr (λ h. h)
spent_or_not (stopped (Raised x) s) = inr (λ h. h)
spent_or_not (stopped WorkSpent s) = inl tt
spent_or_not (stopped Wrong s) = inr (λ h. h)
spent_or_not (stopped NoMemory s) = inr (λ h. h)

module _ (k : Chunk) (ctx : Ctx) (family : Family) (n : ServiceState) where
  -- with more work the evaluation ends as with less
  with_more : (v j : ℕ) → ¬ IsSpent (with_allowance v k ctx family n) → with_allowance (v + j) k ctx family n ≡ after_more j (with_allowance v k ctx family n)
  with_more v j h = ap (λ (r : RunStep Value). r.after) (visit_allowance k (begun_state v ctx family n) j h)

  visit_more : (v j : ℕ) (r : Visit) (new : ServiceState) → IsVisit v k ctx family n r new → r.outcome ≢ outcome.WorkSpent → IsVisit (v + j) k ctx family n r new
  unfolding IsVisit
  visit_more v j r new e h =
      let lasts : ¬ IsSpent (with_allowance v k ctx family n) = λ s. h (spent_outcome v ctx.purse (with_allowance v k ctx family n) r new e s) in
      subst (λ a. Ends (v + j) ctx.purse a r new) (sym (with_more v j lasts)) (ends_more v j ctx.purse (with_allowance v k ctx family n) r new lasts e)

  one_visit : (v : ℕ) (q r : Visit) (m o : ServiceState) → IsVisit v k ctx family n q m → IsVisit v k ctx family n r o → (q ≡ r) × (m ≡ o)
  unfolding IsVisit
  one_visit v q r m o e f = one_end v ctx.purse (with_allowance v k ctx family n) q r m o e f

  pub visits_alike : VisitsAlike k ctx family n
  visits_alike v w q r m o e f h g =
      let same : w + v ≡ v + w = omega arith in
      one_visit (v + w) q r m o (visit_more v w q m e h) (subst (λ u. IsVisit u k ctx family n r o) same (visit_more w v r o f g))

  spent_below : (v w : ℕ) → v ≤ w → IsSpent (with_allowance w k ctx family n) → IsSpent (with_allowance v k ctx family n)
  spent_below v w l h =
      let same : v + (w - v) ≡ w = omega arith in
      ⊎_elim (λ s. s)
      (λ s. absurd (s (more_lasts (w - v) (with_allowance v k ctx family n) (subst IsSpent (with_more v (w - v) s) (subst (λ u. IsSpent (with_allowance u k ctx family n)) (sym same) h)))))
      (spent_or_not (with_allowance v k ctx family n))

  pub spent_exactly : (w : ℕ) (r : Visit) (new : ServiceState) → IsVisit w k ctx family n r new → (r.outcome ≡ outcome.WorkSpent) ↔ NoneSuffices w k ctx family n
  unfolding IsVisit
  spent_exactly w r new e =
      let all : w ≤ w = omega arith in
      (λ h v l. spent_below v w l (outcome_spent w ctx.purse (with_allowance w k ctx family n) r new e h), λ h. spent_outcome w ctx.purse (with_allowance w k ctx family n) r new e (h w all))

  pub visit_can_end : IsGoodChunk k → (w : ℕ) → IsGoodState (begun_state w ctx family n) → VisitEnds k ctx family n
  visit_can_end g w i = visit_ends k g (begun_state w ctx family n) i
