-- The command `replay`: what its file says to it.
use Rattle.std.specs.Prelude.{ℕ, Bool, true, false, if◌then◌else◌, List, Result, Ok, Err}
use Rattle.network_config.specs.declared.schedule.Schedule.{Schedule}
use Rattle.network_config.specs.declared.node.Log.{Log}
use Rattle.line_reader.specs.declared.fault.LineReason.TheVariants.{BadHeader}
use Rattle.line_reader.specs.declared.fault.LineFault.{LineFault}
use Rattle.line_reader.specs.declared.fault.LineFault.TheVariants as faults
use Rattle.schedule_text.specs.Schedules.{schedule_of}
use Rattle.node_files.specs.Logs.{log_of}
use Rattle.node_log.specs.Runs.{played_entries}
use Rattle.node_log.specs.Texts.{whole_trace}
use Rattle.node_log.specs.Nodes.{log_node}
use Rattle.net_world_spec.specs.World.{opening}
use Rattle.net_world_spec.specs.Texts.{run_text}
use Rattle.planet_commands.specs.declared.status.Refusal.TheVariants.{Line}
use Rattle.planet_commands.specs.Said.{Said, nothing, outside, says}

-- the schedule of a network, or the log of a node
pub data Replayed : Type 0 where
  scheduled : Schedule → Replayed
  logged : Log → Replayed

abbrev pub as_log : Result Log LineFault → Result Replayed LineFault
as_log (Ok l) = Ok (logged l)
as_log (Err e) = Err e

-- a file begins as no schedule
abbrev pub is_header_fault : LineFault → Bool
is_header_fault (faults.Line n BadHeader) = true
is_header_fault _ = false

-- and then it is read as a log
abbrev pub or_log : LineFault → List ℕ → Result Replayed LineFault
or_log fault bytes = if is_header_fault fault then as_log (log_of bytes) else Err fault

abbrev pub replayed_by : Result Schedule LineFault → List ℕ → Result Replayed LineFault
replayed_by (Ok s) bytes = Ok (scheduled s)
replayed_by (Err fault) bytes = or_log fault bytes

-- what a file says that is replayed
abbrev pub replayed_of : List ℕ → Result Replayed LineFault
replayed_of bytes = replayed_by (schedule_of bytes) bytes

-- the trace and the ledger of a schedule's run
abbrev pub replay_text : Schedule → List ℕ
replay_text s = run_text s.frames s.events (opening s.topology)

-- the trace of a log: its steps once more, at that node
abbrev pub log_trace : Log → List ℕ
log_trace l = whole_trace l.node.here (played_entries 0 (log_node l) l.events)

-- what was read of a file says; a definition never fails to allocate
abbrev pub run_said : Result Replayed LineFault → Said (List ℕ)
run_said (Ok (scheduled s)) = says (replay_text s)
run_said (Ok (logged l)) = says (log_trace l)
run_said (Err (faults.Line n reason)) = outside (Line n reason)
run_said (Err faults.NoMemory) = nothing

-- the output of a file that is replayed, or its first refusal
unfoldable pub schedule_said : List ℕ → Said (List ℕ)
schedule_said bytes = run_said (replayed_of bytes)
