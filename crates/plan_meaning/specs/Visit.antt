-- What a visit ends with.
use Rattle.std.specs.Prelude.{◌≡◌, ℕ, ◌-◌, List, [], sum_by}
use Rattle.plan_base.specs.declared.ids.Family.{Family}
use Rattle.plan_base.specs.declared.tree.Ty.{Ty}
use Rattle.plan_base.specs.declared.tree.Value.{Value}
use Rattle.plan_base.specs.declared.tree.Chunk.{Chunk}
use Rattle.service_api.specs.declared.ctx.Ctx.{Ctx}
use Rattle.plan_base.specs.WellFormed.{ValueHasTypes}
use Rattle.service_api.specs.declared.answer.Note.{Note}
use Rattle.service_api.specs.declared.answer.Note.TheVariants.{Print, Port}
use Rattle.service_api.specs.Services.{ServiceState, IsGoodValue}
use Rattle.plan_meaning.specs.declared.sent.Sent.{Sent}
use Rattle.plan_meaning.specs.declared.stop.EvalStop.{EvalStop}
use Rattle.plan_meaning.specs.declared.stop.EvalStop.TheVariants as stop
use Rattle.plan_meaning.specs.declared.outcome.Outcome.{Outcome}
use Rattle.plan_meaning.specs.declared.outcome.Outcome.TheVariants as outcome
use Rattle.plan_meaning.specs.declared.outcome.Visit.{Visit}
use Rattle.plan_meaning.specs.State.{VisitState}
use Rattle.plan_meaning.specs.Run.{After, gave, stopped}
use Rattle.plan_meaning.specs.Meaning.{meaning, visited_chunk}

-- the work that a visit may spend
abbrev pub allowance : ℕ
allowance = 4000000

-- the state in which a visit begins, with so much work to spend
abbrev pub begun_state : ℕ → Ctx → Family → ServiceState → VisitState
begun_state work ctx family services = record { ctx = ctx; family = family; work = work; evals = 0; outbox = []; notes = []; services = services }

-- a visit that ended in a state
abbrev pub ended_visit : ℕ → Outcome → VisitState → Visit
ended_visit work how s = record { outcome = how; evals = s.evals; left = s.ctx.purse; outbox = s.outbox; notes = s.notes; work = work - s.work }

-- a visit that has no effect at all
abbrev pub spent_visit : ℕ → ℕ → Visit
spent_visit work bound = record { outcome = outcome.WorkSpent; evals = 0; left = bound; outbox = []; notes = []; work = work }

-- A visit that began with so much work and that bound ends so, and leaves the services so. After `WorkSpent` the caller
-- takes the rows back.
abbrev pub Ends : ℕ → ℕ → After Value → Visit → ServiceState → Type 0
Ends work bound (gave v s) r new = (r ≡ ended_visit work (outcome.Value v) s) × (new ≡ s.services)
Ends work bound (stopped (stop.Raised x) s) r new = (r ≡ ended_visit work (outcome.Raised x) s) × (new ≡ s.services)
Ends work bound (stopped stop.WorkSpent s) r new = (r ≡ spent_visit work bound) × (new ≡ s.services)
Ends work bound (stopped _ s) r new = ⊥

-- The visit of a chunk in surroundings whose purse is the packet's bound: the entry's body with the arguments bound, no
-- evals, packets or notes, and the node's rows.
unfoldable pub IsVisit : ℕ → Chunk → Ctx → Family → ServiceState → Visit → ServiceState → Type 0
IsVisit work k ctx family old r new = Ends work ctx.purse (visited_chunk meaning k (begun_state work ctx family old)).after r new

-- the bounds of packets in sum
abbrev pub bounds : List Sent → ℕ
bounds outbox = sum_by (λ p. p.packet.bound) outbox

-- ---- what a visit hands out

-- a value that lacks no type of `[]` or `raise`, where the note has one
abbrev pub NoteHasTypes : Note → Type 0
NoteHasTypes (Print v) = ValueHasTypes v
NoteHasTypes (Port port v) = ValueHasTypes v

-- a value that it ends with has that type, is well formed, keeps the limits and lacks no type
abbrev pub IsGoodEnd : Ty → Outcome → Type 0
IsGoodEnd t (outcome.Value v) = IsGoodValue t v × ValueHasTypes v
IsGoodEnd t _ = Unit {0}
