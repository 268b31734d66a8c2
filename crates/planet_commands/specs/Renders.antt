-- What a command that reads one file and writes one text does to the output.
use Rattle.std.specs.Prelude.{ℕ, ◌≡◌, ◌⊎◌, List}
use Rattle.node_io.specs.Sinks.{SinkState, Writes, WritesPrefix, FailsIn}
use Rattle.planet_commands.specs.Own.{IsOwn}
use Rattle.planet_commands.specs.declared.status.Cause.{Cause}
use Rattle.planet_commands.specs.declared.status.Cause.TheVariants.{Done, Usage, Refused, ReadFault, WriteFault, LinkFault, SpawnFault, NoMemory, NodesFailed}
use Rattle.planet_commands.specs.Said.{Said, outside, SaysOf}

-- a command that has a text to write writes it, or a prefix of it, and ends with no other causes
abbrev pub Prints : List ℕ → Cause → SinkState → SinkState → Type 0
Prints text Done old new = Writes old new text
Prints text WriteFault old new = FailsIn old new text
Prints text NoMemory old new = WritesPrefix old new text
Prints text Usage old new = ⊥
Prints text (Refused r) old new = ⊥
Prints text ReadFault old new = ⊥
Prints text LinkFault old new = ⊥
Prints text SpawnFault old new = ⊥
Prints text (NodesFailed h s) old new = ⊥

-- the text that bytes say was written, or a prefix of it; or they are refused, or memory was, and nothing was written
abbrev pub Renders : Said (List ℕ) → Cause → SinkState → SinkState → Type 0
Renders said Done old new = SaysOf said (λ text. Writes old new text)
Renders said WriteFault old new = SaysOf said (λ text. FailsIn old new text)
Renders said (Refused r) old new = (IsOwn r × (said ≡ outside r)) × (new ≡ old)
Renders said NoMemory old new = (new ≡ old) ⊎ SaysOf said (λ text. WritesPrefix old new text)
Renders said Usage old new = ⊥
Renders said ReadFault old new = ⊥
Renders said LinkFault old new = ⊥
Renders said SpawnFault old new = ⊥
Renders said (NodesFailed h s) old new = ⊥

-- the text that these bytes say was written so
abbrev pub RendersBy : (List ℕ → Said (List ℕ)) → List ℕ → Cause → SinkState → SinkState → Type 0
RendersBy said bytes cause old new = Renders (said bytes) cause old new
