-- A log that is read again.
use Rattle.std.specs.Prelude.{◌≡◌, ℕ, List, ◌++◌, Some, Ok}
use Rattle.network_config.specs.declared.node.Log.{Log}
use Rattle.network_config.specs.declared.serve.ServeConfig.{ServeConfig}
use Rattle.node_files.specs.Logs.{log_of}
use Rattle.node_io.specs.FileMaps.{file_at}
use Rattle.node_core_spec.specs.State.{NodeState}
use Rattle.node_log.specs.Runs.{played_entries}
use Rattle.node_log.specs.Texts.{whole_trace}
use Rattle.node_serve.specs.Desks.{Serving}

-- the log reads as that of a node that began so, and the trace of its entries is what was written
pub record ReadsAgain (cfg : ServeConfig) (node : NodeState) (old new : Serving) : Type 0 where
  pub bytes : List ℕ
  pub log : Log
  pub there : file_at new.files.held cfg.log ≡ Some bytes
  pub reads : log_of bytes ≡ Ok log
  pub begins : log.node ≡ cfg.node
  pub missing : log.missing ≡ cfg.missing
  pub trace : new.out.taken ≡ old.out.taken ++ whole_trace cfg.node.here (played_entries 0 node log.events)
