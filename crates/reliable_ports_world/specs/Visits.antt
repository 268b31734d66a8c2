-- Visits that send and note certain things only.
use Rattle.std.specs.Prelude.{◌≡◌, ℕ, ℤ, List, [], ◌∷◌}
use Rattle.plan_base.specs.declared.ids.Host.{Host}
use Rattle.plan_base.specs.declared.tree.Chunk.{Chunk}
use Rattle.plan_base.specs.declared.tree.Value.{Value}
use Rattle.plan_base.specs.declared.tree.Value.TheVariants as value
use Rattle.service_api.specs.declared.answer.Note.TheVariants.{Port}
use Rattle.service_api.specs.Services.{Offer}
use Rattle.plan_meaning.specs.State.{VisitState}
use Rattle.plan_meaning.specs.Run.{After, gave, stopped}
use Rattle.plan_meaning.specs.Meaning.{meaning, visited_chunk}
use Rattle.reliable_ports.specs.Programs.{data_chunk, ack_chunk, this_host_is, get_rb, deliver}
use Rattle.reliable_ports_world.specs.Only.{Allowed, Good, Serves}

-- an evaluation's end: all that was sent and noted is allowed, and the value, if there is one, is one of those
abbrev pub EndsGood : {A : Type 0} → Allowed → (A → Type 0) → After A → Type 0
EndsGood a ok (gave v s) = Good a s × ok v
EndsGood a ok (stopped e s) = Good a s

-- any value
abbrev pub Any : Value → Type 0
Any v = Unit {0}

-- however the visit of a chunk ends
abbrev pub VisitIsGood : Allowed → Chunk → VisitState → Type 0
VisitIsGood a k s = EndsGood a Any (visited_chunk meaning k s).after

-- the services that a port's program calls answer with what is allowed, whatever the surroundings
pub record ServesPort (a : Allowed) (dest : Host) (port : ℤ) (message : Value) : Type 0 where
  pub here : Serves a this_host_is (value.Host dest ∷ []) Any
  pub purse : Serves a get_rb [] Any
  pub notes : Serves a deliver (value.Int port ∷ message ∷ []) Any

-- what is noted of a message
abbrev pub data_said : ℤ → List ℕ → Value
data_said seq body = value.Tuple (value.Int seq ∷ value.Blob body ∷ [])

-- the message itself may be sent on, and noted for port 1
abbrev pub data_allowed : Offer → Host → ℤ → List ℕ → Allowed
data_allowed offer dest seq body = record {
  chunk = λ k. k ≡ data_chunk dest seq body;
  note = λ n. n ≡ Port 1 (data_said seq body);
  offer = offer;
}

-- what is noted of an ack
abbrev pub ack_said : ℤ → Value
ack_said next = value.Tuple (value.Int next ∷ value.Blob [] ∷ [])

-- the ack itself may be sent on, and noted for port 2
abbrev pub ack_allowed : Offer → Host → ℤ → Allowed
ack_allowed offer dest next = record {
  chunk = λ k. k ≡ ack_chunk dest next;
  note = λ n. n ≡ Port 2 (ack_said next);
  offer = offer;
}
