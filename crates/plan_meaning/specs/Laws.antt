-- Laws of the meaning.
use Rattle.std.specs.Prelude.{◌≡◌, ◌≢◌, ℕ, ◌+◌, ◌≤◌, List, ◌++◌}
use Rattle.plan_base.specs.declared.ids.Family.{Family}
use Rattle.plan_base.specs.declared.tree.Chunk.{Chunk}
use Rattle.plan_base.specs.declared.tree.Value.{Value}
use Rattle.service_api.specs.declared.ctx.Ctx.{Ctx}
use Rattle.service_api.specs.Services.{ServiceState}
use Rattle.plan_meaning.specs.declared.outcome.Outcome.TheVariants as outcome
use Rattle.plan_meaning.specs.declared.outcome.Visit.{Visit}
use Rattle.plan_meaning.specs.declared.stop.EvalStop.TheVariants as stop
use Rattle.plan_meaning.specs.State.{VisitState}
use Rattle.plan_meaning.specs.Run.{After, gave, stopped, RunStep, Run}
use Rattle.plan_meaning.specs.Meaning.{meaning, visited_chunk}
use Rattle.plan_meaning.specs.Visit.{IsVisit, begun_state, bounds}

-- the state that a run leaves
abbrev pub left_by : {A : Type 0} → After A → VisitState
left_by (gave a s) = s
left_by (stopped e s) = s

-- what a purse holds and what was paid of it
abbrev pub total : VisitState → ℕ
total s = s.ctx.purse + s.evals + bounds s.outbox

-- purse, evals and bounds of the packets sent keep their sum
abbrev pub IsBalanced : {A : Type 0} → Run A → VisitState → Type 0
IsBalanced p s = total (left_by (p s).after) ≡ total s

-- the surroundings without the purse
abbrev pub around : Ctx → Ctx
around c = record c { purse = 0 }

-- surroundings, family, offer and the rows at `begin` stay
pub record IsSteady (old new : VisitState) : Type 0 where
  pub ctx : around new.ctx ≡ around old.ctx
  pub family : new.family ≡ old.family
  pub offer : new.services.offer ≡ old.services.offer
  pub begun : new.services.begun ≡ old.services.begun

-- the later list is the earlier one with more behind it
pub record Extends {A : Type 0} (old new : List A) : Type 0 where
  pub more : List A
  pub behind : new ≡ old ++ more

-- the purse never rises; evals, packets and notes only become more
pub record HasGrown (old new : VisitState) : Type 0 where
  pub purse : new.ctx.purse ≤ old.ctx.purse
  pub evals : old.evals ≤ new.evals
  pub outbox : Extends old.outbox new.outbox
  pub notes : Extends old.notes new.notes

-- it ended for want of work
abbrev pub IsSpent : {A : Type 0} → After A → Type 0
IsSpent (stopped stop.WorkSpent s) = Unit {0}
IsSpent _ = ⊥

abbrev pub more : ℕ → VisitState → VisitState
more k s = record s { work = s.work + k }

abbrev pub after_more : {A : Type 0} → ℕ → After A → After A
after_more k (gave a s) = gave a (more k s)
after_more k (stopped e s) = stopped e (more k s)

-- the same with so much more work left
abbrev pub step_more : {A : Type 0} → ℕ → RunStep A → RunStep A
step_more k r = record { after = after_more k r.after; asks = r.asks }

abbrev pub at_work : ℕ → VisitState → VisitState
at_work k s = record s { work = k }

-- some allowance suffices
abbrev pub EndsFrom : {A : Type 0} → Run A → VisitState → Type 0
EndsFrom p s = (k : ℕ) × (¬ IsSpent (p (at_work k s)).after)

-- where the allowance suffices, a greater one gives the same with so much more work left
abbrev pub IsLonger : {A : Type 0} → Run A → VisitState → Type 0
IsLonger p s = (k : ℕ) → ¬ IsSpent (p s).after → p (more k s) ≡ step_more k (p s)

-- ---- visits by their allowance

-- what the evaluation of a chunk ends with, with so much work to spend
abbrev pub with_allowance : ℕ → Chunk → Ctx → Family → ServiceState → After Value
with_allowance w k ctx family n = (visited_chunk meaning k (begun_state w ctx family n)).after

-- with some allowance the visit ends by itself
abbrev pub VisitEnds : Chunk → Ctx → Family → ServiceState → Type 0
VisitEnds k ctx family n = (w : ℕ) × (¬ IsSpent (with_allowance w k ctx family n))

-- any two allowances that suffice give the same: outcome, effects and work
abbrev pub VisitsAlike : Chunk → Ctx → Family → ServiceState → Type 0
VisitsAlike k ctx family n = (v w : ℕ) (q r : Visit) (m o : ServiceState) → IsVisit v k ctx family n q m → IsVisit w k ctx family n r o
    → q.outcome ≢ outcome.WorkSpent → r.outcome ≢ outcome.WorkSpent → (q ≡ r) × (m ≡ o)

-- no allowance up to this one suffices
abbrev pub NoneSuffices : ℕ → Chunk → Ctx → Family → ServiceState → Type 0
NoneSuffices w k ctx family n = (v : ℕ) → v ≤ w → IsSpent (with_allowance v k ctx family n)
