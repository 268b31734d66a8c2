-- The state of a visit.
use Rattle.std.specs.Prelude.{ℕ, List}
use Rattle.plan_base.specs.declared.ids.Family.{Family}
use Rattle.service_api.specs.declared.answer.Note.{Note}
use Rattle.service_api.specs.declared.ctx.Ctx.{Ctx}
use Rattle.service_api.specs.Services.{ServiceState}
use Rattle.plan_meaning.specs.declared.sent.Sent.{Sent}

-- The surroundings with the purse, the packet's family, the work left, the evals paid, the packets sent, the notes, and
-- what the services stand for.
pub record VisitState : Type 0 where
  pub ctx : Ctx
  pub family : Family
  pub work : ℕ
  pub evals : ℕ
  pub outbox : List Sent
  pub notes : List Note
  pub services : ServiceState

-- the same without the services
pub record Own : Type 0 where
  pub ctx : Ctx
  pub family : Family
  pub work : ℕ
  pub evals : ℕ
  pub outbox : List Sent
  pub notes : List Note

abbrev pub joined_state : Own → ServiceState → VisitState
joined_state o n = record { ctx = o.ctx; family = o.family; work = o.work; evals = o.evals; outbox = o.outbox; notes = o.notes; services = n }

abbrev pub own : VisitState → Own
own s = record { ctx = s.ctx; family = s.family; work = s.work; evals = s.evals; outbox = s.outbox; notes = s.notes }
