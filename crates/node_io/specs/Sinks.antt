-- An output: what it took, its faults, and what a writing does to it.
use Rattle.std.specs.Prelude.{ℕ, Bool, IsTrue, List, [], ◌++◌, ◌≡◌, ◌<◌, ◌≤◌, take, length, Result, Ok, Err}
use Rattle.node_io.specs.Causes.{HasRisen}

-- an output, as contracts see it. What it took is known where it is observable
pub record SinkState : Type 0 where
  pub observable : Bool
  pub taken : List ℕ
  pub faults : ℕ

-- these bytes were written, and nothing else
pub record Writes (old new : SinkState) (bytes : List ℕ) : Type 0 where
  pub same : new.observable ≡ old.observable
  pub later : old.faults ≤ new.faults
  pub taken : IsTrue old.observable → new.taken ≡ old.taken ++ bytes

-- a prefix of these bytes was written
pub record WritesPrefix (old new : SinkState) (bytes : List ℕ) : Type 0 where
  pub count : ℕ
  pub is : Writes old new (take count bytes)

-- a prefix of these bytes was written, and then the output failed
pub record FailsIn (old new : SinkState) (bytes : List ℕ) : Type 0 where
  pub count : ℕ
  pub is : Writes old new (take count bytes)
  pub rose : HasRisen old.faults new.faults

-- as many bytes of a piece were written as the number says, at least 1 of a nonempty one
pub record WritesSome (old new : SinkState) (piece : List ℕ) (n : ℕ) : Type 0 where
  pub within : n ≤ length piece
  pub some : 0 < length piece → 0 < n
  pub is : Writes old new (take n piece)

-- nothing was written, since the output failed
pub record WritesNone (old new : SinkState) : Type 0 where
  pub is : Writes old new []
  pub rose : HasRisen old.faults new.faults

-- what a push did
abbrev pub Pushes : {E : Type 0} → List ℕ → SinkState → SinkState → Result ℕ E → Type 0
Pushes piece old new (Ok n) = WritesSome old new piece n
Pushes piece old new (Err e) = WritesNone old new

-- what a writing of all of the bytes did
abbrev pub Puts : {T E : Type 0} → List ℕ → SinkState → SinkState → Result T E → Type 0
Puts bytes old new (Ok x) = Writes old new bytes
Puts bytes old new (Err e) = FailsIn old new bytes
