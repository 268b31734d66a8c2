-- The meanings of `Services`, and its laws.
use Rattle.std.specs.Prelude.{◌≡◌, ℕ, ◌≤◌, Bool, true, false, if◌then◌else◌, ℤ, pos, ◌≤ℤ◌, List, [], ◌∷◌, length, codes, Option, Some, None}
use Rattle.std.specs.Prelude.{All, Contains, IsTrue}
use Rattle.std.specs.Str.{bytes_eq}
use Rattle.plan_base.specs.declared.tree.Value.{Value}
use Rattle.plan_base.specs.declared.tree.Ty.{Ty}
use Rattle.plan_base.specs.declared.tree.Svc.{Svc}
use Rattle.plan_base.specs.declared.tree.Exn.{Exn}
use Rattle.plan_base.specs.declared.tree.Chunk.{Chunk}
use Rattle.service_api.specs.declared.row.Row.{Row}
use Rattle.service_api.specs.Rows.{fits, living, last_key}
use Rattle.plan_types_spec.specs.Rules.{exception, no_service}
use Rattle.service_api.specs.declared.answer.Note.{Note}
use Rattle.service_api.specs.declared.answer.Note.TheVariants.{Print, Port}
use Rattle.service_api.specs.declared.answer.Answer.{Answer}
use Rattle.service_api.specs.declared.answer.Answer.TheVariants.{Gives, Raises}
use Rattle.service_api.specs.declared.ctx.Ctx.{Ctx}
use Rattle.service_api.specs.declared.scheme.Scheme.{Scheme}
use Rattle.service_api.specs.Schemes.{is_instance_of}
use Rattle.plan_types_spec.specs.Typing.{HasType, IsSmall, IsTypedChunk}
use Rattle.plan_base.specs.WellFormed.{IsWellFormedValue, IsWellFormedChunk}

-- ---- the state: a table's rows and its next key

pub record Rows : Type 0 where
  pub rows : List Row
  pub «next» : ℤ

-- an answer with the state after it
pub record Served : Type 0 where
  pub answer : Answer
  pub rows : Rows

-- the one answer and the one next state for a declaration, arguments, a context and a state
abbrev pub Serve : Type 0
Serve = Svc → List Value → Ctx → Rows → Served

-- the services that are there: the type of each by its name, and what calls answer
pub record Offer : Type 0 where
  pub scheme : List ℕ → Option Scheme
  pub serve : Serve

-- what a value of `Services` stands for. `begun` is the state at the open `begin`, and `ready` says whether
-- `ready` was answered since the last `call`
pub record ServiceState : Type 0 where
  pub offer : Offer
  pub rows : Rows
  pub begun : Option Rows
  pub ready : Bool

-- ---- what the calls do

-- what a call at this standing answers
abbrev pub served_call : ServiceState → Svc → List Value → Ctx → Served
served_call n svc args ctx = n.offer.serve svc args ctx n.rows

-- the standing after a call that left these rows
abbrev pub called_services : Rows → ServiceState → ServiceState
called_services rows n = record n { rows = rows; ready = false }

abbrev pub Answers : ServiceState → Svc → List Value → Ctx → Answer → ServiceState → Type 0
Answers old svc args ctx a new = ((served_call old svc args ctx).answer ≡ a) × (new ≡ called_services (served_call old svc args ctx).rows old)

abbrev pub begun_now : ServiceState → ServiceState
begun_now n = record n { begun = Some n.rows; ready = false }

abbrev pub made_ready : ServiceState → ServiceState
made_ready n = record n { ready = true }

abbrev pub kept_services : ServiceState → ServiceState
kept_services n = record n { begun = None; ready = false }

abbrev pub rows_at : Option Rows → Rows → Rows
rows_at (Some rows) now = rows
rows_at None now = now

abbrev pub abandoned_services : ServiceState → ServiceState
abandoned_services n = record n { rows = rows_at n.begun n.rows; begun = None; ready = false }

-- the rows that are there at a tick stay
abbrev pub unexpired_services : ℕ → ServiceState → ServiceState
unexpired_services now n = record n { rows = record n.rows { rows = living now n.rows.rows } }

-- ---- the laws

-- a well-formed value of that type within the limits
pub record IsGoodValue (t : Ty) (v : Value) : Type 0 where
  pub typed : HasType v t
  pub small : IsSmall v
  pub formed : IsWellFormedValue v

-- a typed and well-formed chunk
pub record IsGoodChunk (k : Chunk) : Type 0 where
  pub typed : IsTypedChunk k
  pub formed : IsWellFormedChunk k

-- each value is good, at the type at its place
abbrev pub AreGoodValues : List Ty → List Value → Type 0
AreGoodValues [] [] = Unit {0}
AreGoodValues (t ∷ ts) (v ∷ vs) = IsGoodValue t v × AreGoodValues ts vs
AreGoodValues _ _ = ⊥

-- a table within its limits, in which each row's value has the type at which it was kept, and a next key from 1 on
pub record AreGoodRows (r : Rows) : Type 0 where
  pub values : All (λ x. IsGoodValue x.ty x.value) r.rows
  pub room : IsTrue (fits r.rows)
  pub least : pos 1 ≤ℤ r.«next»
  pub greatest : r.«next» ≤ℤ last_key

-- the value of a note is good at some type
abbrev pub IsGoodNote : Note → Type 0
IsGoodNote (Print v) = (t : Ty) × IsGoodValue t v
IsGoodNote (Port p v) = (t : Ty) × IsGoodValue t v

abbrev pub IsGoodOptionNote : Option Note → Type 0
IsGoodOptionNote None = Unit {0}
IsGoodOptionNote (Some note) = IsGoodNote note

-- the exceptions that a service raises besides `NoService`, by its name
abbrev pub own_exceptions : List (List ℕ × List Exn)
own_exceptions =
    (codes "getDist", exception (codes "NoRoute") ∷ []) ∷ (codes "nextHop", exception (codes "NoRoute") ∷ []) ∷
    (codes "put", exception (codes "BadIndex") ∷ exception (codes "TableFull") ∷ []) ∷ (codes "get", exception (codes "NotFound") ∷ []) ∷
    (codes "generateKey", exception (codes "Overflow") ∷ []) ∷ (codes "deliver", exception (codes "BadIndex") ∷ []) ∷ []

abbrev pub exceptions_among : List (List ℕ × List Exn) → List ℕ → List Exn
exceptions_among [] name = []
exceptions_among (r ∷ rs) name = if bytes_eq r.0 name then r.1 else exceptions_among rs name

-- the service may raise it
abbrev pub MayRaise : Svc → Exn → Type 0
MayRaise svc x = Contains (no_service ∷ exceptions_among own_exceptions svc.name) x

abbrev pub IsGoodAnswer : Svc → Answer → Type 0
IsGoodAnswer svc (Gives v note) = IsGoodValue svc.result v × IsGoodOptionNote note
IsGoodAnswer svc (Raises x) = MayRaise svc x

pub record IsGoodServed (svc : Svc) (s : Served) : Type 0 where
  pub answer : IsGoodAnswer svc s.answer
  pub rows : AreGoodRows s.rows

-- at good rows, good arguments of the declared types and at most 8 neighbours, calls answer well and leave good rows
abbrev pub IsGoodServe : Serve → Type 0
IsGoodServe serve = (svc : Svc) (args : List Value) (ctx : Ctx) (rows : Rows) → AreGoodRows rows → AreGoodValues svc.params args → length ctx.neighbours ≤ 8
    → IsGoodServed svc (serve svc args ctx rows)

-- `NoService`, with the rows as they were
abbrev pub refused_call : Rows → Served
refused_call rows = record { answer = Raises no_service; rows = rows }

-- a declaration of a name that isn't offered, or that is no instance of the type of its name, is refused
abbrev pub RefusesOthers : Offer → Type 0
RefusesOthers offer = (svc : Svc) (args : List Value) (ctx : Ctx) (rows : Rows) → is_instance_of (offer.scheme svc.name) svc ≡ false
    → offer.serve svc args ctx rows ≡ refused_call rows

-- what a visit may rely on
pub record IsGood (n : ServiceState) : Type 0 where
  pub serve : IsGoodServe n.offer.serve
  pub rows : AreGoodRows n.rows
