-- A replay that is done wrote the run of its schedule, or the trace of its log; a cut its parts, and a gathering its messages.
use Rattle.std.proofs.Common.{◌≡◌, ℕ, List, ap, subst}
use Rattle.network_config.specs.declared.schedule.Schedule.{Schedule}
use Rattle.network_config.specs.declared.node.Log.{Log}
use Rattle.node_io.specs.Outsides.{Outside}
use Rattle.node_io.specs.Sinks.{SinkState, Writes}
use Rattle.net_world_spec.specs.World.{opening}
use Rattle.net_world_spec.specs.Texts.{run_text}
use Rattle.planet_commands.specs.declared.status.Cause.{Cause}
use Rattle.planet_commands.specs.declared.status.Cause.TheVariants.{Done}
use Rattle.planet_commands.specs.Said.{says, said_by, said_then}
use Rattle.planet_commands_run.specs.Schedules.{log_trace}
use Rattle.planet_commands_run.proofs.Logs.{replay_said_is, log_said}
use Rattle.command_files.specs.declared.cut.CutFile.{CutFile}
use Rattle.command_files.specs.Texts.{cut_output}
use Rattle.planet_commands_fleet.specs.Messages.{messages_text}
use Rattle.planet_cli.specs.declared.kinds.Kind.TheVariants.{Replay, Cut, Gather}
use Rattle.planet_cli.specs.Requests.{request_of}
use Rattle.planet_commands.specs.Notes.{Notes}
use Rattle.planet_cli.specs.Does.{Does}
use Rattle.planet_cli.specs.Calls.{Calls}
use Rattle.planet_cli.specs.Replays.{Replays, ReplaysLog}
use Rattle.planet_cli.specs.Gathers.{Cuts, Gathers}
use Rattle.planet_cli.proofs.Writing.{text_written}

-- by what the words ask for
module _ (words : List (List ℕ)) (cause : Cause) (old new : Outside) (n m : SinkState) (call : Calls (request_of words) cause old new n m) where
  -- a replay of a schedule
  pub replay_writes : (s : Schedule) → Replays words old.files s → cause ≡ Done → Writes old.out new.out (run_text s.frames s.events (opening s.topology))
  replay_writes s r done =
      text_written Replay r.file r.bytes (run_text s.frames s.events (opening s.topology)) cause old new n m (subst (λ q. Calls q cause old new n m) r.asked call) r.seen r.there (replay_said_is r.bytes s r.says) done

  -- of a log
  pub log_writes : (l : Log) (r : ReplaysLog words old.files l) → cause ≡ Done → Writes old.out new.out (log_trace l)
  log_writes l r done =
      text_written Replay r.file r.bytes (log_trace l) cause old new n m (subst (λ q. Calls q cause old new n m) r.asked call) r.seen r.there (log_said r.bytes l r.says) done

  -- a cut
  pub cut_writes : (c : CutFile) → Cuts words old.files c → cause ≡ Done → Writes old.out new.out (cut_output c)
  cut_writes c r done =
      text_written Cut r.file r.bytes (cut_output c) cause old new n m (subst (λ q. Calls q cause old new n m) r.asked call) r.seen r.there (ap (λ r. said_then (said_by r) (λ m. says (cut_output m))) r.says) done

  -- a gathering
  pub gather_writes : (port : ℕ) (l : Log) → Gathers words old.files port l → cause ≡ Done → Writes old.out new.out (messages_text port l)
  gather_writes port l r done =
      text_written (Gather port) r.file r.bytes (messages_text port l) cause old new n m (subst (λ q. Calls q cause old new n m) r.asked call) r.seen r.there (ap (λ r. said_then (said_by r) (λ x. says (messages_text port x))) r.says) done

-- of what was found, with its notes
module _ (words : List (List ℕ)) (found cause : Cause) (old new : Outside) (n m : SinkState) (does : Does (request_of words) found old new) (notes : Notes found n m cause) where
  request_is_called : Calls (request_of words) cause old new n m
  request_is_called = record { found = found; does = does; notes = notes }

  pub found_writes : (s : Schedule) → Replays words old.files s → cause ≡ Done → Writes old.out new.out (run_text s.frames s.events (opening s.topology))
  found_writes s r done = replay_writes words cause old new n m request_is_called s r done
