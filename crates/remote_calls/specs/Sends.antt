-- What a send does, and where a device leads.
use Rattle.std.specs.Prelude.{◌≡◌, ℕ, ◌+◌, Bool, if◌then◌else◌, ◌==◌, List, [], ◌∷◌, ◌++◌, None}
use Rattle.plan_base.specs.declared.name.Name.{Name}
use Rattle.plan_base.specs.declared.ids.Host.{Host}
use Rattle.plan_base.specs.declared.ids.Dev.{Dev}
use Rattle.plan_base.specs.declared.ids.Family.{Family}
use Rattle.plan_base.specs.declared.tree.Chunk.{Chunk}
use Rattle.plan_base.specs.declared.tree.Packet.{Packet}
use Rattle.service_api.specs.declared.ctx.Ctx.{Ctx}
use Rattle.plan_meaning.specs.declared.sent.Sent.{Sent}
use Rattle.plan_meaning.specs.Meaning.{leads_to}

-- whether a host is next over a device: device 0 leads to the node itself, any other to its first neighbour there
unfoldable pub leads : Ctx → Dev → Host → Bool
leads ctx d h = if d.0 == 0 then ctx.here.0 == h.0 else leads_to ctx.neighbours d h

abbrev pub packet_of : Family → Host → ℕ → Name → Chunk → Packet
packet_of family host bound route chunk = record { family = family; dest = host; bound = bound; route = route; chunk = chunk; handler = None }

-- the purse paid the packet's bound, and the packet is the last that is to be sent
pub record IsSent (dev : Dev) (packet : Packet) (purse : ℕ) (outbox : List Sent) (left : ℕ) (all : List Sent) : Type 0 where
  pub paid : left + packet.bound ≡ purse
  pub appended : all ≡ outbox ++ record { dev = dev; packet = packet } ∷ []

-- nothing was paid, and nothing is sent
pub record IsKept (purse : ℕ) (outbox : List Sent) (left : ℕ) (all : List Sent) : Type 0 where
  pub unpaid : left ≡ purse
  pub unsent : all ≡ outbox
