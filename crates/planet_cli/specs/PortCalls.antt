-- Calls that run two ends of a reliable port.
use Rattle.std.specs.Prelude.{ℕ, ◌≡◌, IsTrue, List, Some, Ok}
use Rattle.node_io.specs.FileMaps.{file_at}
use Rattle.node_io.specs.FileStates.{FilesState}
use Rattle.command_files.specs.declared.port.PortFile.{PortFile}
use Rattle.command_files.specs.PortFiles.{port_of}
use Rattle.planet_cli.specs.declared.kinds.Kind.TheVariants.{Port}
use Rattle.planet_cli.specs.Requests.{on_file, request_of}

-- the words run what a file is seen to say of two ends
pub record RunsPorts (words : List (List ℕ)) (files : FilesState) (p : PortFile) : Type 0 where
  pub file : List ℕ
  pub bytes : List ℕ
  pub asked : request_of words ≡ Some (on_file Port file)
  pub seen : IsTrue files.observable
  pub there : file_at files.held file ≡ Some bytes
  pub says : port_of bytes ≡ Ok p
