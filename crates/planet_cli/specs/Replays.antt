-- Calls that replay a file.
use Rattle.std.specs.Prelude.{ℕ, ◌≡◌, IsTrue, List, Some, Ok}
use Rattle.network_config.specs.declared.schedule.Schedule.{Schedule}
use Rattle.network_config.specs.declared.node.Log.{Log}
use Rattle.node_io.specs.FileMaps.{file_at}
use Rattle.node_io.specs.FileStates.{FilesState}
use Rattle.schedule_text.specs.Schedules.{schedule_of}
use Rattle.node_files.specs.Logs.{log_of}
use Rattle.planet_cli.specs.declared.kinds.Kind.TheVariants.{Replay}
use Rattle.planet_cli.specs.Requests.{on_file, request_of}

-- the words are a replay of a file that is seen to say this schedule
pub record Replays (words : List (List ℕ)) (files : FilesState) (s : Schedule) : Type 0 where
  pub file : List ℕ
  pub bytes : List ℕ
  pub asked : request_of words ≡ Some (on_file Replay file)
  pub seen : IsTrue files.observable
  pub there : file_at files.held file ≡ Some bytes
  pub says : schedule_of bytes ≡ Ok s

-- the words are a replay of a file that is seen to say this log
pub record ReplaysLog (words : List (List ℕ)) (files : FilesState) (l : Log) : Type 0 where
  pub file : List ℕ
  pub bytes : List ℕ
  pub asked : request_of words ≡ Some (on_file Replay file)
  pub seen : IsTrue files.observable
  pub there : file_at files.held file ≡ Some bytes
  pub says : log_of bytes ≡ Ok l
