-- The command `fleet`: what it does with the fleet that its file says, and how it ends.
use Rattle.std.specs.Prelude.{◌≡◌, ℕ, List, Result, Ok, Err}
use Rattle.network_config.specs.declared.fleet.Fleet.{Fleet}
use Rattle.node_files.specs.Fleets.{fleet_of}
use Rattle.node_io.specs.FileMaps.{FileMap}
use Rattle.node_io.specs.Sinks.{SinkState}
use Rattle.node_io.specs.Spawners.{SpawnerState}
use Rattle.fleet_run.specs.Runs.{RunsFleet}
use Rattle.fleet_run.specs.declared.fault.FleetFault.{FleetFault}
use Rattle.fleet_run.specs.declared.fault.FleetFault.TheVariants.{StartFault, WaitFault, WriteFault, NoMemory}
use Rattle.fleet_run.specs.declared.reports.FleetEnd.{FleetEnd}
use Rattle.fleet_run.specs.declared.reports.FleetEnd.TheVariants.{Well, Failed}
use Rattle.planet_commands.specs.declared.status.Cause.{Cause}
use Rattle.planet_commands.specs.declared.status.Cause.TheVariants as causes
use Rattle.planet_commands.specs.Said.{Said, lines_said}

-- what the file of this name says to `fleet`
abbrev pub fleet_said : List ℕ → FileMap → Said Fleet
fleet_said name files = lines_said fleet_of name files

-- the cause that says how a fleet ended
abbrev pub fleet_cause : Result FleetEnd FleetFault → Cause
fleet_cause (Ok Well) = causes.Done
fleet_cause (Ok (Failed host status)) = causes.NodesFailed host status
fleet_cause (Err StartFault) = causes.SpawnFault
fleet_cause (Err WaitFault) = causes.SpawnFault
fleet_cause (Err WriteFault) = causes.WriteFault
fleet_cause (Err NoMemory) = causes.NoMemory

-- the children that are started, and the output
pub record Shop : Type 0 where
  pub children : SpawnerState
  pub out : SinkState

abbrev pub shop : SpawnerState → SinkState → Shop
shop children out = record { children = children; out = out }

-- a fleet that was read ran so, and this cause says how it ended
pub record RunsAs (f : Fleet) (cause : Cause) (old new : Shop) : Type 0 where
  pub result : Result FleetEnd FleetFault
  pub is : cause ≡ fleet_cause result
  pub runs : RunsFleet f.children old.children new.children old.out new.out result
