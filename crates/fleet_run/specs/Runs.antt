-- What stands after a fleet's run, and after each part of it.
use Rattle.std.specs.Prelude.{ℕ, IsTrue, List, ◌≡◌, ◌+◌, ◌++◌, ◌⊎◌, ◌≤◌, length, take, drop, Result, Ok, Err}
use Rattle.network_config.specs.declared.fleet.Kid.{Kid}
use Rattle.node_io.specs.Causes.{HasRisen, one_more}
use Rattle.node_io.specs.Sinks.{SinkState, Writes, FailsIn}
use Rattle.node_io.specs.Spawners.{Words, SpawnerState, KeepsStatuses}
use Rattle.node_io.specs.declared.spawner.Child.{Child}
use Rattle.fleet_run.specs.Children.{AreOpen, AreNumbered, LeavesOpen, LeavesAllBut}
use Rattle.fleet_run.specs.Fleets.{fleet_starts, fleet_text, fleet_end}
use Rattle.fleet_run.specs.declared.fault.FleetFault.{FleetFault}
use Rattle.fleet_run.specs.declared.fault.FleetFault.TheVariants.{StartFault, WaitFault, WriteFault, NoMemory}
use Rattle.fleet_run.specs.declared.reports.FleetEnd.{FleetEnd}

-- all of these starts were asked
abbrev pub Started : List Words → SpawnerState → SpawnerState → Type 0
Started words old new = IsTrue old.observable → new.starts ≡ old.starts ++ words

-- a prefix of them was
pub record StartsPrefix (words : List Words) (old new : SpawnerState) : Type 0 where
  pub count : ℕ
  pub is : IsTrue old.observable → new.starts ≡ old.starts ++ take count words

-- ---- parts

-- all were started, or a prefix of them
abbrev pub StartResult : {T E : Type 0} → List Words → List Child → SpawnerState → SpawnerState → Result T E → Type 0
StartResult words started old new (Ok x) = (length started ≡ length words) × Started words old new
StartResult words started old new (Err e) = HasRisen old.faults new.faults × StartsPrefix words old new

pub record StartsAll {T E : Type 0} (words : List Words) (started : List Child) (old new : SpawnerState) (result : Result T E) : Type 0 where
  pub kept : KeepsStatuses old new
  pub running : AreOpen old.children new.children started
  pub numbered : IsTrue old.observable → AreNumbered old.started started
  pub did : StartResult words started old new result

-- these were waited for, up to a fault
pub record WaitsForAll (started : List Child) (old new : SpawnerState) : Type 0 where
  pub kept : KeepsStatuses old new
  pub starts : new.starts ≡ old.starts
  pub waited : (base : List Child) → AreOpen base old.children started → (new.children ≡ base) ⊎ (HasRisen old.faults new.faults × LeavesOpen base new.children)

-- each was waited for, and its line written
abbrev pub ReportResult : {T : Type 0} → List Kid → List ℕ → SpawnerState → SpawnerState → SinkState → SinkState → Result T FleetFault → Type 0
ReportResult kids statuses old new out_old out_new (Ok x) = (length statuses ≡ length kids) × Writes out_old out_new (fleet_text kids statuses)
ReportResult kids statuses old new out_old out_new (Err StartFault) = ⊥
ReportResult kids statuses old new out_old out_new (Err WaitFault) = HasRisen old.faults new.faults × Writes out_old out_new (fleet_text kids statuses)
ReportResult kids statuses old new out_old out_new (Err WriteFault) = FailsIn out_old out_new (fleet_text kids statuses)
ReportResult kids statuses old new out_old out_new (Err NoMemory) = Writes out_old out_new (fleet_text kids statuses)

-- none is left open; where it failed, all are but those whose line stands, and the one whose wait or line failed
abbrev pub Closes : {T : Type 0} → ℕ → ℕ → List Child → List Child → Result T FleetFault → Type 0
Closes all lines base running (Ok x) = running ≡ base
Closes all lines base running (Err StartFault) = ⊥
Closes all lines base running (Err WaitFault) = LeavesAllBut (lines + 1) all base running
Closes all lines base running (Err WriteFault) = LeavesAllBut lines all base running
Closes all lines base running (Err NoMemory) = LeavesAllBut (lines + 1) all base running

pub record ReportsEach {T : Type 0} (kids : List Kid) (started : List Child) (statuses : List ℕ) (old new : SpawnerState)
    (out_old out_new : SinkState) (result : Result T FleetFault) : Type 0 where
  pub kept : KeepsStatuses old new
  pub starts : new.starts ≡ old.starts
  pub few : length statuses ≤ length kids
  pub given : IsTrue old.observable → (n : ℕ) → AreNumbered n started → statuses ≡ take (length statuses) (drop n old.statuses)
  pub closed : (base : List Child) → AreOpen base old.children started → Closes (length kids) (length statuses) base new.children result
  pub did : ReportResult kids statuses old new out_old out_new result

-- ---- the whole

-- what stands of the starts, of the open children and of the lines, where these statuses came
abbrev pub FleetResult : List Kid → List ℕ → SpawnerState → SpawnerState → SinkState → SinkState → Result FleetEnd FleetFault → Type 0
FleetResult kids statuses old new out_old out_new (Ok end) =
    (length statuses ≡ length kids) × (end ≡ fleet_end kids statuses)
    × Started (fleet_starts kids) old new × (new.children ≡ old.children) × Writes out_old out_new (fleet_text kids statuses)
FleetResult kids statuses old new out_old out_new (Err StartFault) =
    HasRisen old.faults new.faults
    × StartsPrefix (fleet_starts kids) old new
    × ((new.children ≡ old.children) ⊎ (HasRisen (one_more old.faults) new.faults × LeavesOpen old.children new.children))
    × (out_new ≡ out_old)
FleetResult kids statuses old new out_old out_new (Err WaitFault) =
    HasRisen old.faults new.faults
    × Started (fleet_starts kids) old new
    × LeavesAllBut (length statuses + 1) (length kids) old.children new.children
    × Writes out_old out_new (fleet_text kids statuses)
FleetResult kids statuses old new out_old out_new (Err WriteFault) =
    Started (fleet_starts kids) old new
    × LeavesAllBut (length statuses) (length kids) old.children new.children
    × FailsIn out_old out_new (fleet_text kids statuses)
FleetResult kids statuses old new out_old out_new (Err NoMemory) =
    ((new ≡ old) × (out_new ≡ out_old))
    ⊎ (Started (fleet_starts kids) old new
    × LeavesAllBut (length statuses + 1) (length kids) old.children new.children
    × Writes out_old out_new (fleet_text kids statuses))

-- a fleet ran: these statuses of its first children came, in order, one for each that was waited for but the one that failed, and so
-- much stands
pub record RunsFleet (kids : List Kid) (old new : SpawnerState) (out_old out_new : SinkState) (result : Result FleetEnd FleetFault) : Type 0 where
  pub kept : KeepsStatuses old new
  pub statuses : List ℕ
  pub few : length statuses ≤ length kids
  pub given : IsTrue old.observable → statuses ≡ take (length statuses) (drop old.started old.statuses)
  pub did : FleetResult kids statuses old new out_old out_new result
