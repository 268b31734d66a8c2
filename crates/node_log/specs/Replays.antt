-- What a replay of a log writes.
use Rattle.std.specs.Prelude.{ℕ, List, Result, Ok, Err}
use Rattle.node_io.specs.Sinks.{SinkState, Writes, WritesPrefix, FailsIn}
use Rattle.node_log.specs.declared.fault.ReplayFault.{ReplayFault}
use Rattle.node_log.specs.declared.fault.ReplayFault.TheVariants.{WriteFault, NoMemory}

-- a prefix of this text was written, and then the output failed or an allocation failed
abbrev pub Stops : ReplayFault → List ℕ → SinkState → SinkState → Type 0
Stops WriteFault text old new = FailsIn old new text
Stops NoMemory text old new = WritesPrefix old new text

-- this text was written, or a prefix of it
abbrev pub Prints : {T : Type 0} → List ℕ → SinkState → SinkState → Result T ReplayFault → Type 0
Prints text old new (Ok x) = Writes old new text
Prints text old new (Err fault) = Stops fault text old new
