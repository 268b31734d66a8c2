-- The packet of a program's text.
use Rattle.std.specs.Prelude.{◌≡◌, ℕ, List, [], None, Ok}
use Rattle.plan_base.specs.declared.ids.Host.{Host}
use Rattle.plan_base.specs.declared.tree.Program.{Program}
use Rattle.plan_base.specs.declared.tree.Chunk.{Chunk}
use Rattle.plan_base.specs.declared.tree.Packet.{Packet}
use Rattle.service_api.specs.Routes.{default_route}
use Rattle.program_text.specs.Texts.{program_of}

-- the program with that entry and no arguments
abbrev pub chunk_with : Program → List ℕ → Chunk
chunk_with program entry = record { code = program; entry = entry; args = [] }

-- the first packet that a host injects to itself
abbrev pub first_packet : Host → ℕ → Chunk → Packet
first_packet here bound chunk =
    record { family = record { source = here; serial = 1 }; dest = here; bound = bound; route = default_route; chunk = chunk; handler = None }

-- the text is the packet's program, and all else is as wanted
pub record IsPacketOf (text entry : List ℕ) (here : Host) (bound : ℕ) (p : Packet) : Type 0 where
  pub read : program_of text ≡ Ok p.chunk.code
  pub made : p ≡ first_packet here bound (chunk_with p.chunk.code entry)
