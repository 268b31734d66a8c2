-- The command `grow`: what it writes, and how it ends.
use Rattle.std.specs.Prelude.{ℕ, ◌≡◌}
use Rattle.node_io.specs.Sinks.{SinkState, Writes, FailsIn}
use Rattle.grow_run.specs.Pings.{OfGrown}
use Rattle.planet_commands.specs.declared.status.Cause.{Cause}
use Rattle.planet_commands.specs.declared.status.Cause.TheVariants.{Done, Usage, Refused, ReadFault, WriteFault, LinkFault, SpawnFault, NoMemory, NodesFailed}

-- the summary of the network of a seed after n events was written, or a prefix of it where the output failed; nothing, where an
-- allocation failed; and it ends with no other causes
abbrev pub GrowsAs : ℕ → ℕ → Cause → SinkState → SinkState → Type 0
GrowsAs seed n Done old new = OfGrown seed n (Writes old new)
GrowsAs seed n WriteFault old new = OfGrown seed n (FailsIn old new)
GrowsAs seed n NoMemory old new = new ≡ old
GrowsAs seed n Usage old new = ⊥
GrowsAs seed n (Refused r) old new = ⊥
GrowsAs seed n ReadFault old new = ⊥
GrowsAs seed n LinkFault old new = ⊥
GrowsAs seed n SpawnFault old new = ⊥
GrowsAs seed n (NodesFailed h s) old new = ⊥
