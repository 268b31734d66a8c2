-- Evaluations: what they give, how they leave the state, what they ask of services and which chunks they send.
use Rattle.std.specs.Prelude.{ℕ, ◌-◌, Bool, ◌||◌, if◌then◌else◌, nat_lt, List, [], ◌∷◌, ◌++◌, Option, Some, None}
use Rattle.plan_base.specs.declared.tree.Chunk.{Chunk}
use Rattle.plan_base.specs.declared.tree.Exn.{Exn}
use Rattle.plan_base.specs.declared.tree.Svc.{Svc}
use Rattle.plan_base.specs.declared.tree.Value.{Value}
use Rattle.plan_base.specs.Sizes.{weight, nesting}
use Rattle.plan_types_spec.specs.Rules.{Given, gives, raises, unfit, too_large}
use Rattle.service_api.specs.declared.answer.Note.{Note}
use Rattle.service_api.specs.declared.answer.Answer.{Answer}
use Rattle.service_api.specs.declared.answer.Answer.TheVariants.{Gives, Raises}
use Rattle.service_api.specs.Services.{Served, served_call, called_services}
use Rattle.plan_meaning.specs.declared.stop.EvalStop.{EvalStop}
use Rattle.plan_meaning.specs.declared.stop.EvalStop.TheVariants.{Raised, WorkSpent, Wrong}
use Rattle.plan_meaning.specs.State.{VisitState}

-- a result with the state after it
pub data After (A : Type 0) : Type 0 where
  gave : A → VisitState → After A
  stopped : EvalStop → VisitState → After A

-- what an evaluation asks of services and which chunks it sends; `never` stands where no case of the meaning applies
pub data Asks : Type 0 where
  nothing : Asks
  never : Asks
  service : Svc → List Value → Asks
  sends : Chunk → Asks
  both : Asks → Asks → Asks

pub record RunStep (A : Type 0) : Type 0 where
  pub after : After A
  pub asks : Asks

abbrev pub Run : Type 0 → Type 0
Run A = VisitState → RunStep A

-- ---- one after the other

abbrev pub «next» : {A B : Type 0} → After A → (A → Run B) → RunStep B
«next» (gave a s) f = f a s
«next» (stopped e s) f = record { after = stopped e s; asks = nothing }

abbrev pub and_then : {A B : Type 0} → RunStep A → (A → Run B) → RunStep B
and_then r f = record { after = («next» r.after f).after; asks = both r.asks («next» r.after f).asks }

infixl 10 ◌>>=◌
abbrev pub ◌>>=◌ : {A B : Type 0} → Run A → (A → Run B) → Run B
p >>= f = λ s. and_then (p s) f

infixl 10 ◌>>◌
abbrev pub ◌>>◌ : {A B : Type 0} → Run A → Run B → Run B
p >> q = p >>= (λ _. q)

abbrev pub quiet : {A : Type 0} → After A → RunStep A
quiet after = record { after = after; asks = nothing }

abbrev pub pure : {A : Type 0} → A → Run A
pure a = λ s. quiet (gave a s)

abbrev pub stop : {A : Type 0} → EvalStop → Run A
stop e = λ s. quiet (stopped e s)

abbrev pub raise : {A : Type 0} → Exn → Run A
raise x = stop (Raised x)

-- no case applies
abbrev pub wrong : {A : Type 0} → Run A
wrong = λ s. record { after = stopped Wrong s; asks = never }

abbrev pub or_wrong : {A : Type 0} → Option A → Run A
or_wrong (Some a) = pure a
or_wrong None = wrong

-- what an operator or a primitive gives
abbrev pub given_value : Given → Run Value
given_value (gives v) = pure v
given_value (raises x) = raise x
given_value unfit = wrong

-- an exception goes on as told, in the state that it left
abbrev pub otherwise : {A : Type 0} → After A → (Exn → Run A) → RunStep A
otherwise (stopped (Raised x) s) f = f x s
otherwise after f = quiet after

abbrev pub rescued_step : {A : Type 0} → RunStep A → (Exn → Run A) → RunStep A
rescued_step r f = record { after = (otherwise r.after f).after; asks = both r.asks (otherwise r.after f).asks }

abbrev pub rescue : {A : Type 0} → Run A → (Exn → Run A) → Run A
rescue p f = λ s. rescued_step (p s) f

-- ---- work

-- `WorkSpent` where it is more than the work left
unfoldable pub spend : ℕ → Run (Unit {0})
spend n = λ s. if nat_lt s.work n then quiet (stopped WorkSpent s) else quiet (gave tt (record s { work = s.work - n }))

-- whether a value passes the limits: weight 16,384 and nesting 4
unfoldable pub is_too_large : Value → Bool
is_too_large v = nat_lt 16384 (weight v) || nat_lt 4 (nesting v)

-- a value over the limits raises `TooLarge`; else its weight is spent
unfoldable pub weighed_value : Value → Run Value
weighed_value v = if is_too_large v then raise too_large else (spend (weight v) >> pure v)

-- what each expression spends: 1 first, then the weight of its value
unfoldable pub whole : Run Value → Run Value
whole p = spend 1 >> p >>= weighed_value

-- ---- services

abbrev pub notes_after : Option Note → List Note → List Note
notes_after None notes = notes
notes_after (Some note) notes = notes ++ note ∷ []

abbrev pub answered_call : Answer → VisitState → After Value
answered_call (Gives v note) s = gave v (record s { notes = notes_after note s.notes })
answered_call (Raises x) s = stopped (Raised x) s

abbrev pub after_service : Served → VisitState → After Value
after_service r s = answered_call r.answer (record s { services = called_services r.rows s.services })

-- the answer of a service, at the surroundings and the rows as they are
unfoldable pub serve : Svc → List Value → Run Value
serve d args = λ s. record { after = after_service (served_call s.services d args s.ctx) s; asks = service d args }
