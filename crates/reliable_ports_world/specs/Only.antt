-- Evaluations that send and note certain things only.
use Rattle.std.specs.Prelude.{◌≡◌, List, None, IfSome}
use Rattle.std.specs.List.{AllByRecursion}
use Rattle.plan_base.specs.declared.tree.Chunk.{Chunk}
use Rattle.plan_base.specs.declared.tree.Svc.{Svc}
use Rattle.plan_base.specs.declared.tree.Value.{Value}
use Rattle.service_api.specs.declared.answer.Note.{Note}
use Rattle.service_api.specs.declared.answer.Answer.{Answer}
use Rattle.service_api.specs.declared.answer.Answer.TheVariants.{Gives, Raises}
use Rattle.service_api.specs.declared.ctx.Ctx.{Ctx}
use Rattle.service_api.specs.Services.{Rows, Offer}
use Rattle.plan_meaning.specs.declared.sent.Sent.{Sent}
use Rattle.plan_meaning.specs.State.{VisitState}

-- which chunks may be sent, which notes may be made, and what the services offer
pub record Allowed : Type 1 where
  pub chunk : Chunk → Type 0
  pub note : Note → Type 0
  pub offer : Offer

-- a packet that was sent carries an allowed chunk, and no handler
abbrev pub MaySend : Allowed → Sent → Type 0
MaySend a x = a.chunk x.packet.chunk × (x.packet.handler ≡ None)

-- all that was sent and noted is allowed
pub record Good (a : Allowed) (s : VisitState) : Type 0 where
  pub offer : s.services.offer ≡ a.offer
  pub sends : AllByRecursion (MaySend a) s.outbox
  pub notes : AllByRecursion a.note s.notes

-- an answer's note is allowed, and its value is one of those
abbrev pub AnswerFits : (Note → Type 0) → (Value → Type 0) → Answer → Type 0
AnswerFits note ok (Gives v n) = IfSome n note × ok v
AnswerFits note ok (Raises x) = Unit {0}

-- whatever the surroundings, a call of the service answers so
abbrev pub Serves : Allowed → Svc → List Value → (Value → Type 0) → Type 0
Serves a svc args ok = (ctx : Ctx) (rows : Rows) → AnswerFits a.note ok (a.offer.serve svc args ctx rows).answer
