-- Evaluations that ask services well, hold typed values and never are without a case.
use Rattle.std.specs.Prelude.{◌≡◌, ◌≢◌, ◌≤◌, List, [], ◌∷◌, length, None, All}
use Rattle.plan_base.specs.declared.tree.Param.{Param}
use Rattle.service_api.specs.declared.answer.Note.{Note}
use Rattle.service_api.specs.Services.{IsGoodValue, IsGoodChunk, AreGoodValues, IsGoodNote, IsGood}
use Rattle.plan_meaning.specs.declared.binding.Binding.{Binding}
use Rattle.plan_meaning.specs.declared.sent.Sent.{Sent}
use Rattle.plan_meaning.specs.declared.stop.EvalStop.TheVariants.{Wrong}
use Rattle.plan_meaning.specs.State.{VisitState}
use Rattle.plan_meaning.specs.Run.{After, gave, stopped, Asks, nothing, never, service, sends, both, RunStep, Run}

-- services are asked only with good arguments of the declared types, only good chunks are sent, and no step is without a case
abbrev pub IsSafe : Asks → Type 0
IsSafe nothing = Unit {0}
IsSafe never = ⊥
IsSafe (service d args) = AreGoodValues d.params args
IsSafe (sends k) = IsGoodChunk k
IsSafe (both a b) = IsSafe a × IsSafe b

-- the values of the notes and the chunks of the packets are typed, are well formed and keep the limits
abbrev pub AreGoodNotes : List Note → Type 0
AreGoodNotes notes = All IsGoodNote notes

-- what is sent carries such a chunk and no handler
abbrev pub IsGoodSent : Sent → Type 0
IsGoodSent p = IsGoodChunk p.packet.chunk × (p.packet.handler ≡ None)

abbrev pub AreGoodPackets : List Sent → Type 0
AreGoodPackets outbox = All IsGoodSent outbox

-- the services keep their laws, notes and packets are good, and there are at most 8 neighbours
pub record IsGoodState (s : VisitState) : Type 0 where
  pub services : IsGood s.services
  pub notes : AreGoodNotes s.notes
  pub outbox : AreGoodPackets s.outbox
  pub near : length s.ctx.neighbours ≤ 8

-- a value of which P holds, or a stop for a cause other than the want of a case, and a good state
abbrev pub Holds : {A : Type 0} → (A → Type 0) → After A → Type 0
Holds P (gave a s) = P a × IsGoodState s
Holds P (stopped e s) = (e ≢ Wrong) × IsGoodState s

pub record IsRight {A : Type 0} (P : A → Type 0) (r : RunStep A) : Type 0 where
  pub safe : IsSafe r.asks
  pub holds : Holds P r.after

-- right from each good state
abbrev pub Yields : {A : Type 0} → (A → Type 0) → Run A → Type 0
Yields P p = (s : VisitState) → IsGoodState s → IsRight P (p s)

-- bindings of good values under the names and at the types of a list
abbrev pub HasEnv : List Param → List Binding → Type 0
HasEnv [] [] = Unit {0}
HasEnv (p ∷ ps) (b ∷ bs) = (p.name ≡ b.name) × IsGoodValue p.ty b.value × HasEnv ps bs
HasEnv _ _ = ⊥
