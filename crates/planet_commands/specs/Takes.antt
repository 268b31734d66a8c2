-- How a command takes a value of the files, and acts on it.
use Rattle.std.specs.Prelude.{ℕ, ◌≡◌, IsTrue, List, Result, Ok, Err, MatchResult}
use Rattle.node_io.specs.Causes.{HasRisen}
use Rattle.node_io.specs.FileMaps.{FileMap, MayName}
use Rattle.node_io.specs.FileStates.{FilesState, OnlyReads}
use Rattle.planet_commands.specs.Own.{IsOwn}
use Rattle.planet_commands.specs.declared.status.Cause.{Cause}
use Rattle.planet_commands.specs.declared.status.Cause.TheVariants.{Done, Usage, Refused, ReadFault, WriteFault, LinkFault, SpawnFault, NoMemory, NodesFailed}
use Rattle.planet_commands.specs.Said.{Said, outside, says}

-- why bytes that were read give no value: a refusal for a reason of their own, or `NoMemory`
abbrev pub Refuses : {A : Type 0} → Said A → Cause → Type 0
Refuses said (Refused r) = IsOwn r × (said ≡ outside r)
Refuses said NoMemory = Unit {0}
Refuses said Done = ⊥
Refuses said Usage = ⊥
Refuses said ReadFault = ⊥
Refuses said WriteFault = ⊥
Refuses said LinkFault = ⊥
Refuses said SpawnFault = ⊥
Refuses said (NodesFailed h s) = ⊥

-- what a reader of bytes answers
abbrev pub Reads : {A : Type 0} → Said A → Result A Cause → Type 0
Reads said (Ok v) = said ≡ says v
Reads said (Err cause) = Refuses said cause

-- why no value was taken of the files
abbrev pub Untaken : {A : Type 0} → (FileMap → Said A) → FilesState → FilesState → Cause → Type 0
Untaken said old new (Refused r) = IsOwn r × (IsTrue old.observable → said old.held ≡ outside r)
Untaken said old new ReadFault = HasRisen old.read_faults new.read_faults
Untaken said old new NoMemory = Unit {0}
Untaken said old new Done = ⊥
Untaken said old new Usage = ⊥
Untaken said old new WriteFault = ⊥
Untaken said old new LinkFault = ⊥
Untaken said old new SpawnFault = ⊥
Untaken said old new (NodesFailed h s) = ⊥

-- a value was taken of the files, or a command ends before it does anything: each for its cause
abbrev pub TakeResult : {A : Type 0} → (FileMap → Said A) → FilesState → FilesState → Result A Cause → Type 0
TakeResult said old new (Ok v) = IsTrue old.observable → said old.held ≡ says v
TakeResult said old new (Err cause) = Untaken said old new cause

-- the file of this name was read, no other and nothing else, and this was taken of it
pub record Takes {A : Type 0} (said : FileMap → Said A) (name : List ℕ) (old new : FilesState) (result : Result A Cause) : Type 0 where
  pub only : OnlyReads old new
  pub asked : MayName old.asked new.asked name
  pub did : TakeResult said old new result

-- the file of this name was taken, and where it says a value the command acts on that; else it ends there, and does nothing
pub record TakesAndActs {A S : Type 0} (said : FileMap → Said A) (Acts : A → Cause → S → S → Type 0) (name : List ℕ)
    (files read : FilesState) (cause : Cause) (old new : S) : Type 0 where
  pub taken : Result A Cause
  pub takes : Takes said name files read taken
  pub acts : MatchResult taken (λ v. Acts v cause old new) (λ why. (cause ≡ why) × (new ≡ old))
