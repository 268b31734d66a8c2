-- Files: what they hold, what was asked of them, and what a reading does to them.
use Rattle.std.specs.Prelude.{ℕ, Bool, IsTrue, true, false, List, [], ◌∷◌, ◌++◌, ◌≡◌, ◌<◌, ◌≤◌, ◌+◌, take, length, Result, Ok, Err, Some, OnOk, IsSomeAnd}
use Rattle.node_io.specs.Causes.{HasRisen}
use Rattle.node_io.specs.FileMaps.{FileMap, file_at, MayName, ChangesOnly, WritesMore}
use Rattle.node_io.specs.declared.read.ReadError.{ReadError}
use Rattle.node_io.specs.declared.read.ReadError.TheVariants.{Fault, TooLong, NoMemory}

-- files, as contracts see them. What they hold, the names asked and made, what the reading has left and which file is
-- written are known where they are observable
pub record FilesState : Type 0 where
  pub observable : Bool
  pub held : FileMap
  pub asked : List (List ℕ)
  pub made : List (List ℕ)
  pub left : List ℕ
  pub target : List ℕ
  pub reading : Bool
  pub writing : Bool
  pub read_faults : ℕ
  pub write_faults : ℕ

-- the files were read, and nothing was written
pub record OnlyReads (old new : FilesState) : Type 0 where
  pub observable : new.observable ≡ old.observable
  pub held : new.held ≡ old.held
  pub made : new.made ≡ old.made
  pub writing : new.writing ≡ old.writing
  pub target : new.target ≡ old.target
  pub write_faults : new.write_faults ≡ old.write_faults
  pub later : old.read_faults ≤ new.read_faults

-- a reading is begun at the first byte of the file of this name; a failure begins none
abbrev pub AtStart : {T E : Type 0} → List ℕ → FilesState → FilesState → Result T E → Type 0
AtStart name old new (Ok x) = (new.reading ≡ true) × (IsTrue old.observable → file_at old.held name ≡ Some new.left)
AtStart name old new (Err e) = (new.reading ≡ false) × HasRisen old.read_faults new.read_faults

pub record BeginsReading {T E : Type 0} (name : List ℕ) (old new : FilesState) (result : Result T E) : Type 0 where
  pub only : OnlyReads old new
  pub asked : MayName old.asked new.asked name
  pub named : IsTrue old.observable → OnOk result (new.asked ≡ old.asked ++ name ∷ [])
  pub begun : AtStart name old new result

-- so many bytes were taken off the front of what is left, none only at the end
abbrev pub TakesOff : {E : Type 0} → List ℕ → FilesState → FilesState → Result ℕ E → Type 0
TakesOff buf old new (Ok n) = (n ≤ length buf) × (IsTrue old.observable → (old.left ≡ take n buf ++ new.left) × (n ≡ 0 → new.left ≡ []))
TakesOff buf old new (Err e) = (new.left ≡ old.left) × HasRisen old.read_faults new.read_faults

pub record Pulls {E : Type 0} (buf : List ℕ) (old new : FilesState) (result : Result ℕ E) : Type 0 where
  pub only : OnlyReads old new
  pub asked : new.asked ≡ old.asked
  pub reading : new.reading ≡ old.reading
  pub took : TakesOff buf old new result

-- the bytes of the file of this name, at most so many; or that it has more, or that a fault came, or running out of memory
abbrev pub Found : List ℕ → ℕ → FilesState → FilesState → Result (List ℕ) ReadError → Type 0
Found name limit old new (Ok bytes) = (length bytes ≤ limit) × (IsTrue old.observable → file_at old.held name ≡ Some bytes)
Found name limit old new (Err TooLong) = IsTrue old.observable → IsSomeAnd (file_at old.held name) (λ bytes. limit < length bytes)
Found name limit old new (Err Fault) = HasRisen old.read_faults new.read_faults
Found name limit old new (Err NoMemory) = Unit {0}

-- one file was read, at most, and that is what was found. Where a reading was begun, at most one byte more than the limit
-- was taken off the file
pub record ReadsFile (name : List ℕ) (limit : ℕ) (old new : FilesState) (result : Result (List ℕ) ReadError) : Type 0 where
  pub only : OnlyReads old new
  pub asked : MayName old.asked new.asked name
  pub few : IsTrue new.reading → IsTrue old.observable → IsSomeAnd (file_at old.held name) (λ bytes. length bytes ≤ length new.left + (limit + 1))
  pub found : Found name limit old new result

-- ---- writings

-- the files were written, and nothing was read
pub record OnlyWrites (old new : FilesState) : Type 0 where
  pub observable : new.observable ≡ old.observable
  pub asked : new.asked ≡ old.asked
  pub reading : new.reading ≡ old.reading
  pub read_faults : new.read_faults ≡ old.read_faults
  pub later : old.write_faults ≤ new.write_faults

-- the file of this name is empty and is being written; a failure leaves the files as they were
abbrev pub AtEmpty : {T E : Type 0} → List ℕ → FilesState → FilesState → Result T E → Type 0
AtEmpty name old new (Ok x) = (new.writing ≡ true) × (IsTrue old.observable → (new.target ≡ name) × ChangesOnly old.held new.held name [])
AtEmpty name old new (Err e) = (new.writing ≡ false) × (new.held ≡ old.held) × HasRisen old.write_faults new.write_faults

pub record BeginsWriting {T E : Type 0} (name : List ℕ) (old new : FilesState) (result : Result T E) : Type 0 where
  pub only : OnlyWrites old new
  pub made : MayName old.made new.made name
  pub named : IsTrue old.observable → OnOk result (new.made ≡ old.made ++ name ∷ [])
  pub begun : AtEmpty name old new result

-- these bytes were added to the file being written
pub record Adds (old new : FilesState) (bytes : List ℕ) : Type 0 where
  pub only : OnlyWrites old new
  pub made : new.made ≡ old.made
  pub writing : new.writing ≡ old.writing
  pub target : new.target ≡ old.target
  pub held : IsTrue old.observable → WritesMore old.held new.held old.target bytes

-- as many bytes of a piece as the number says were, at least 1 of a nonempty one
pub record AddsSome (old new : FilesState) (piece : List ℕ) (n : ℕ) : Type 0 where
  pub within : n ≤ length piece
  pub some : 0 < length piece → 0 < n
  pub is : Adds old new (take n piece)

-- a prefix of these bytes was, and then the files failed
pub record FailsAdding (old new : FilesState) (bytes : List ℕ) : Type 0 where
  pub count : ℕ
  pub is : Adds old new (take count bytes)
  pub rose : HasRisen old.write_faults new.write_faults

-- none were, since the files failed
pub record AddsNone (old new : FilesState) : Type 0 where
  pub is : Adds old new []
  pub rose : HasRisen old.write_faults new.write_faults

-- what a push did
abbrev pub AddResult : {E : Type 0} → List ℕ → FilesState → FilesState → Result ℕ E → Type 0
AddResult piece old new (Ok n) = AddsSome old new piece n
AddResult piece old new (Err e) = AddsNone old new

-- what a writing of all of the bytes did
abbrev pub PutsFile : {T E : Type 0} → List ℕ → FilesState → FilesState → Result T E → Type 0
PutsFile bytes old new (Ok x) = Adds old new bytes
PutsFile bytes old new (Err e) = FailsAdding old new bytes

-- ---- inside a reading

-- the next bytes were added, and where no more came the file is at its end
abbrev pub FillResult : ℕ → List ℕ → List ℕ → FilesState → FilesState → Result ℕ ReadError → Type 0
FillResult most bytes more old new (Ok n) = (length more ≡ length bytes + n) × (n ≤ most)
    × (IsTrue old.observable → (bytes ++ old.left ≡ more ++ new.left) × (n ≡ 0 → new.left ≡ []))
FillResult most bytes more old new (Err Fault) = HasRisen old.read_faults new.read_faults
FillResult most bytes more old new (Err NoMemory) = Unit {0}
FillResult most bytes more old new (Err TooLong) = ⊥

pub record Filled (most : ℕ) (bytes more : List ℕ) (old new : FilesState) (result : Result ℕ ReadError) : Type 0 where
  pub only : OnlyReads old new
  pub asked : new.asked ≡ old.asked
  pub reading : new.reading ≡ old.reading
  pub few : IsTrue old.observable → length old.left ≤ length new.left + most
  pub did : FillResult most bytes more old new result

-- the rest of the file was read, or it is longer; at most one byte more than the limit was taken off it
abbrev pub RestResult : {T : Type 0} → ℕ → List ℕ → FilesState → FilesState → Result T ReadError → Type 0
RestResult limit bytes old new (Ok x) = (length bytes ≤ limit) × (IsTrue old.observable → bytes ≡ old.left)
RestResult limit bytes old new (Err TooLong) = IsTrue old.observable → limit < length old.left
RestResult limit bytes old new (Err Fault) = HasRisen old.read_faults new.read_faults
RestResult limit bytes old new (Err NoMemory) = Unit {0}

pub record Rest {T : Type 0} (limit : ℕ) (bytes : List ℕ) (old new : FilesState) (result : Result T ReadError) : Type 0 where
  pub only : OnlyReads old new
  pub asked : new.asked ≡ old.asked
  pub few : IsTrue old.observable → length old.left ≤ length new.left + (limit + 1)
  pub did : RestResult limit bytes old new result
