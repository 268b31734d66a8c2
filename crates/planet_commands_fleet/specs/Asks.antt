-- The command `inject`: what it does with the request that its file says, and how it ends.
use Rattle.std.specs.Prelude.{◌≡◌, ℕ, List, Result, Ok, Err}
use Rattle.network_config.specs.declared.fleet.AskFile.{AskFile}
use Rattle.node_files.specs.Asks.{ask_of}
use Rattle.node_io.specs.FileMaps.{FileMap}
use Rattle.node_io.specs.Links.{LinkState}
use Rattle.node_io.specs.Sinks.{SinkState}
use Rattle.fleet_run.specs.Asks.{Asks}
use Rattle.fleet_run.specs.declared.fault.AskFault.{AskFault}
use Rattle.fleet_run.specs.declared.fault.AskFault.TheVariants.{LinkFault, WriteFault, NoMemory}
use Rattle.planet_commands.specs.declared.status.Cause.{Cause}
use Rattle.planet_commands.specs.declared.status.Cause.TheVariants as causes
use Rattle.planet_commands.specs.Said.{Said, lines_said}

-- what the file of this name says to `inject`
abbrev pub ask_said : List ℕ → FileMap → Said AskFile
ask_said name files = lines_said ask_of name files

-- the cause that says how a request ended
abbrev pub ask_cause : {T : Type 0} → Result T AskFault → Cause
ask_cause (Ok x) = causes.Done
ask_cause (Err LinkFault) = causes.LinkFault
ask_cause (Err WriteFault) = causes.WriteFault
ask_cause (Err NoMemory) = causes.NoMemory

-- the link over which a request is sent, and the output
pub record Wire : Type 0 where
  pub link : LinkState
  pub out : SinkState

abbrev pub wire : LinkState → SinkState → Wire
wire link out = record { link = link; out = out }

-- a request that was read was sent so, and this cause says how it ended
pub record AsksAs (a : AskFile) (cause : Cause) (old new : Wire) : Type 0 where
  pub result : Result (Unit {0}) AskFault
  pub is : cause ≡ ask_cause result
  pub asks : Asks a old.link new.link old.out new.out result
