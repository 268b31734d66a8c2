-- What is on its way between the ends.
use Rattle.std.specs.Prelude.{◌≡◌, ℕ, zero, suc, ◌≤◌, pos, List, [], ◌∷◌, slice_get, Option, Some, None}
use Rattle.plan_base.specs.declared.ids.Host.{Host}
use Rattle.plan_base.specs.declared.tree.Chunk.{Chunk}
use Rattle.plan_base.specs.declared.tree.Value.{Value}
use Rattle.plan_base.specs.declared.tree.Value.TheVariants as value
use Rattle.service_api.specs.declared.answer.Note.{Note}
use Rattle.service_api.specs.declared.answer.Note.TheVariants.{Port}
use Rattle.service_api.specs.declared.ctx.Ctx.{Ctx}
use Rattle.service_api.specs.Services.{Offer as Offering, Rows}
use Rattle.network_config.specs.declared.schedule.HostSpec.{HostSpec}
use Rattle.network_config.specs.declared.event.WorldEvent.TheVariants as event
use Rattle.reliable_ports.specs.Ends.{Body}
use Rattle.reliable_ports.specs.Programs.{this_host_is, get_rb, deliver, data_chunk, ack_chunk}
use Rattle.reliable_ports_world.specs.Only.{Allowed, AnswerFits}
use Rattle.reliable_ports_world.specs.Visits.{Any, data_said, ack_said}
use Rattle.reliable_ports_world.specs.Ports.{first_host, second_host, PortEvent, Wire}

-- the message with a number, from 1
abbrev pub body_numbered : ℕ → List Body → Option Body
body_numbered zero os = None
body_numbered (suc i) os = slice_get os i

-- a chunk with a message that was offered, or with an ack of at most n
pub data PortChunk (os : List Body) (n : ℕ) (k : Chunk) : Type 0 where
  message : (seq : ℕ) (body : Body) → body_numbered seq os ≡ Some body → k ≡ data_chunk second_host (pos seq) body → PortChunk os n k
  ack : (next : ℕ) → next ≤ n → k ≡ ack_chunk first_host (pos next) → PortChunk os n k

-- a note of such a message or ack
pub data PortNote (os : List Body) (n : ℕ) (x : Note) : Type 0 where
  message : (seq : ℕ) (body : Body) → body_numbered seq os ≡ Some body → x ≡ Port 1 (data_said (pos seq) body) → PortNote os n x
  ack : (next : ℕ) → next ≤ n → x ≡ Port 2 (ack_said (pos next)) → PortNote os n x

-- what may be on its way and noted, where these bodies were offered and at most n was said to be awaited
abbrev pub port_allowed : Offering → List Body → ℕ → Allowed
port_allowed offer os n = record { chunk = PortChunk os n; note = PortNote os n; offer = offer }

-- no note at all
abbrev pub NoNote : Note → Type 0
NoNote n = ⊥

-- what the two hosts' services answer
pub record PortServes (offer : Offering) : Type 0 where
  pub host : (h : Host) (ctx : Ctx) (rows : Rows) → AnswerFits NoNote Any (offer.serve this_host_is (value.Host h ∷ []) ctx rows).answer
  pub purse : (ctx : Ctx) (rows : Rows) → AnswerFits NoNote Any (offer.serve get_rb [] ctx rows).answer
  pub delivers : (p : ℕ) (v : Value) (ctx : Ctx) (rows : Rows)
      → AnswerFits (λ n. n ≡ Port p v) Any (offer.serve deliver (value.Int (pos p) ∷ v ∷ []) ctx rows).answer

-- no bytes come from outside, and nothing is injected but by the ends
abbrev pub IsWire : PortEvent → Type 0
IsWire (Wire (event.Inject h c b o)) = ⊥
IsWire (Wire (event.Raw h d bytes)) = ⊥
IsWire _ = Unit {0}

-- a host that lacks no package
abbrev pub AllPresent : HostSpec → Type 0
AllPresent h = h.missing ≡ []
