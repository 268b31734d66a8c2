-- Child processes, and what starts them.
use Rattle.std.specs.Prelude.{ℕ, Bool, IsTrue, not, List, [], ◌∷◌, ◌++◌, ◌+◌, ◌≡◌, ◌⊎◌, ◌≤◌, ◌==◌, Some, slice_get, filter, Contains, Result, Ok, Err}
use Rattle.node_io.specs.Causes.{HasRisen}
use Rattle.node_io.specs.declared.spawner.Child.{Child}

-- whether another child is meant
abbrev pub is_other : Child → Child → Bool
is_other child other = not (other.0 == child.0)

-- the child isn't among these
abbrev pub IsFresh : List Child → Child → Type 0
IsFresh running child = Contains running child → ⊥

-- the words of a start
abbrev pub Words : Type 0
Words = List (List ℕ)

-- what starts children, as contracts see it. The statuses of all children in the order of their starts, how many were
-- started, and the words of each start asked are known where it is observable
pub record SpawnerState : Type 0 where
  pub observable : Bool
  pub statuses : List ℕ
  pub started : ℕ
  pub starts : List Words
  pub children : List Child
  pub faults : ℕ

-- what every call leaves
pub record KeepsStatuses (old new : SpawnerState) : Type 0 where
  pub observable : new.observable ≡ old.observable
  pub statuses : new.statuses ≡ old.statuses
  pub later : old.faults ≤ new.faults

-- a new child is open, with the next number, or the spawner failed; the words stand among the starts, but where an allocation failed
abbrev pub StartResult : {E : Type 0} → Words → SpawnerState → SpawnerState → Result Child E → Type 0
StartResult words old new (Ok child) = (new.children ≡ old.children ++ child ∷ []) × IsFresh old.children child × Contains new.children child
    × (IsTrue old.observable → (new.starts ≡ old.starts ++ words ∷ []) × (child.0 ≡ old.started) × (new.started ≡ old.started + 1))
StartResult words old new (Err e) =
    (new.children ≡ old.children) × (new.started ≡ old.started) × ((new.starts ≡ old.starts) ⊎ (new.starts ≡ old.starts ++ words ∷ []))
    × HasRisen old.faults new.faults

pub record Starts {E : Type 0} (words : Words) (old new : SpawnerState) (result : Result Child E) : Type 0 where
  pub kept : KeepsStatuses old new
  pub did : StartResult words old new result

-- the status of a child that was waited for
abbrev pub WaitResult : {E : Type 0} → Child → SpawnerState → SpawnerState → Result ℕ E → Type 0
WaitResult child old new (Ok status) = IsTrue old.observable → slice_get old.statuses child.0 ≡ Some status
WaitResult child old new (Err e) = HasRisen old.faults new.faults

pub record Waits {E : Type 0} (child : Child) (old new : SpawnerState) (result : Result ℕ E) : Type 0 where
  pub kept : KeepsStatuses old new
  pub children : new.children ≡ filter (is_other child) old.children
  pub started : new.started ≡ old.started
  pub starts : new.starts ≡ old.starts
  pub status : WaitResult child old new result
