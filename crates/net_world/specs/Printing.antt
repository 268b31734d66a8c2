-- What a run writes, and what waits to be written.
use Rattle.std.specs.Prelude.{ℕ, List, ◌≡◌, ◌++◌, Result, Ok, Err}
use Rattle.node_io.specs.Sinks.{SinkState, Writes, WritesPrefix, FailsIn}
use Rattle.net_world.specs.declared.runs.RunFault.{RunFault}
use Rattle.net_world.specs.declared.runs.RunFault.TheVariants.{WriteFault, NoMemory}

-- a prefix of this text was written, and then the output failed or an allocation failed
abbrev pub Stops : RunFault → List ℕ → SinkState → SinkState → Type 0
Stops WriteFault text old new = FailsIn old new text
Stops NoMemory text old new = WritesPrefix old new text

-- this text was written, or a prefix of it
abbrev pub Prints : {T : Type 0} → List ℕ → SinkState → SinkState → Result T RunFault → Type 0
Prints text old new (Ok x) = Writes old new text
Prints text old new (Err fault) = Stops fault text old new

-- of this text a prefix was written, and the bytes behind it wait
pub record IsWaiting (old new : SinkState) (waiting text : List ℕ) : Type 0 where
  pub done : List ℕ
  pub written : Writes old new done
  pub is : text ≡ done ++ waiting

-- so with what waits, or a prefix of the text
abbrev pub WaitsFor : List ℕ → SinkState → SinkState → Result (List ℕ) RunFault → Type 0
WaitsFor text old new (Ok left) = IsWaiting old new left text
WaitsFor text old new (Err fault) = Stops fault text old new

abbrev pub PutsPiece : {E : Type 0} → List ℕ → SinkState → SinkState → Result (List ℕ) E → Type 0
PutsPiece text old new (Ok left) = IsWaiting old new left text
PutsPiece text old new (Err e) = FailsIn old new text
