-- All that a call of the product is handed.
use Rattle.node_io.specs.FileStates.{FilesState}
use Rattle.node_io.specs.Sinks.{SinkState}
use Rattle.node_io.specs.Links.{LinkState}
use Rattle.node_io.specs.Clocks.{ClockState}
use Rattle.node_io.specs.Spawners.{SpawnerState}

pub record Outside : Type 0 where
  pub files : FilesState
  pub out : SinkState
  pub link : LinkState
  pub clock : ClockState
  pub children : SpawnerState

abbrev pub outside : FilesState → SinkState → LinkState → ClockState → SpawnerState → Outside
outside files out link clock children = record { files = files; out = out; link = link; clock = clock; children = children }
