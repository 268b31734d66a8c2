-- The ping that a growing network injects, and what is written of such a network.
use Rattle.std.specs.Prelude.{ℕ, ◌≡◌, List, [], ◌∷◌, Result, Ok, Err, codes}
use Rattle.plan_base.specs.declared.ids.Host.{Host}
use Rattle.plan_base.specs.declared.tree.Chunk.{Chunk}
use Rattle.plan_base.specs.declared.tree.Program.{Program}
use Rattle.plan_base.specs.declared.tree.Value.TheVariants as value
use Rattle.program_text.specs.Texts.{program_of}
use Rattle.grow_run.specs.Summaries.{GrowText}
use Rattle.node_io.specs.Sinks.{SinkState, Writes, FailsIn}
use Rattle.net_world.specs.declared.runs.RunFault.{RunFault}
use Rattle.net_world.specs.declared.runs.RunFault.TheVariants.{WriteFault, NoMemory}

-- the program of a ping: it goes to a host, and from there an answer comes back and prints
unfoldable pub ping_text : List ℕ
ping_text = codes
    "svc thisHostIs : (host) -> bool\nsvc getRB : () -> int\nsvc print : (string) -> unit\nfun ack() : unit = print(\"Success\")\nfun ping(src : host, dest : host) : unit =\n  if not thisHostIs(dest) then\n    OnRemote(|ping|(src, dest), dest, getRB(), defaultRoute)\n  else OnRemote(|ack|(), src, getRB(), defaultRoute)\n"

-- a ping of that program from one host to another
abbrev pub ping : Program → Host → Host → Chunk
ping code from to = record { code = code; entry = codes "ping"; args = value.Host from ∷ value.Host to ∷ [] }

-- the text of the ping is a program, and a fact holds of the summary of the network of a seed after n events with such pings
pub record OfGrown (seed n : ℕ) (Is : List ℕ → Type 0) : Type 0 where
  pub code : Program
  pub reads : program_of ping_text ≡ Ok code
  pub is : Is (GrowText (ping code) seed n)

-- the summary was written, or a prefix of it where the output failed; nothing, where an allocation failed
abbrev pub Grows : {T : Type 0} → ℕ → ℕ → SinkState → SinkState → Result T RunFault → Type 0
Grows seed n old new (Ok x) = OfGrown seed n (Writes old new)
Grows seed n old new (Err WriteFault) = OfGrown seed n (FailsIn old new)
Grows seed n old new (Err NoMemory) = new ≡ old
