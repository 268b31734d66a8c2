-- Calls that cut a message, and calls that gather the messages of a log.
use Rattle.std.specs.Prelude.{ℕ, ◌≡◌, IsTrue, List, Some, Ok}
use Rattle.network_config.specs.declared.node.Log.{Log}
use Rattle.node_io.specs.FileMaps.{file_at}
use Rattle.node_io.specs.FileStates.{FilesState}
use Rattle.node_files.specs.Logs.{log_of}
use Rattle.command_files.specs.declared.cut.CutFile.{CutFile}
use Rattle.command_files.specs.Cuts.{cut_of}
use Rattle.planet_cli.specs.declared.kinds.Kind.TheVariants.{Cut, Gather}
use Rattle.planet_cli.specs.Requests.{on_file, request_of}

-- the words are a cut of a file that is seen to name this message
pub record Cuts (words : List (List ℕ)) (files : FilesState) (m : CutFile) : Type 0 where
  pub file : List ℕ
  pub bytes : List ℕ
  pub asked : request_of words ≡ Some (on_file Cut file)
  pub seen : IsTrue files.observable
  pub there : file_at files.held file ≡ Some bytes
  pub says : cut_of bytes ≡ Ok m

-- the words gather for this port what a file notes that is seen to say this log
pub record Gathers (words : List (List ℕ)) (files : FilesState) (port : ℕ) (l : Log) : Type 0 where
  pub file : List ℕ
  pub bytes : List ℕ
  pub asked : request_of words ≡ Some (on_file (Gather port) file)
  pub seen : IsTrue files.observable
  pub there : file_at files.held file ≡ Some bytes
  pub says : log_of bytes ≡ Ok l
