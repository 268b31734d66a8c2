-- Calls that audit the logs of a fleet.
use Rattle.std.specs.Prelude.{ℕ, ◌≡◌, ◌≤◌, IsTrue, List, [], map, Some}
use Rattle.std.specs.List.{AllByRecursion}
use Rattle.plan_base.specs.declared.ids.Family.{Family}
use Rattle.plan_base.specs.declared.stamp.Version.TheVariants.{Two}
use Rattle.network_config.specs.declared.node.Log.{Log}
use Rattle.net_world_spec.specs.World.{Cables}
use Rattle.ledger_audit.specs.Crossings.{Crossing, times, crossings}
use Rattle.ledger_audit.specs.Once.{ComesFrom}
use Rattle.ledger_audit.specs.Audits.{all_accepted, AddsUp}
use Rattle.ledger_audit.specs.Pasts.{logged_of}
use Rattle.ledger_audit.specs.Ledgers.{verdict_of, IsYes}
use Rattle.node_io.specs.FileStates.{FilesState}
use Rattle.command_files.specs.declared.audit.AuditFile.{AuditFile}
use Rattle.command_files.specs.AuditFiles.{audit_of}
use Rattle.planet_commands.specs.Said.{says, lines_said}
use Rattle.planet_commands_fleet.specs.Audits.{logs_said}
use Rattle.planet_cli.specs.Requests.{audit, request_of}

-- the words audit a file that is seen to name these logs and links, and the logs are seen to say this
pub record Audits (words : List (List ℕ)) (files : FilesState) (a : AuditFile) (logs : List Log) : Type 0 where
  pub file : List ℕ
  pub asked : request_of words ≡ Some (audit file)
  pub seen : IsTrue files.observable
  pub names : lines_said audit_of file files.held ≡ says a
  pub says : logs_said a.logs [] files.held ≡ says logs

-- the answer is `yes`
abbrev pub Fit : Cables → List Log → Type 0
Fit links logs = IsYes (verdict_of links (map logged_of logs))

-- each family was granted what it paid, what is live and what was left, over all logs
abbrev pub AllAddUp : Cables → List Log → Type 0
AllAddUp links logs = (f : Family) → AddsUp f links (map logged_of logs)

-- the log of the host that a crossing comes from, if there is one, is of version 2
abbrev pub IsFromTwo : Crossing → List Log → Type 0
IsFromTwo c logs = AllByRecursion (λ l. ComesFrom c l.node.here → l.node.version ≡ Two) logs

-- no frame of a node of version 2 was accepted twice: no two accepted frames from one of its ends have the same bytes
abbrev pub AcceptOnce : Cables → List Log → Type 0
AcceptOnce links logs = (c : Crossing) → IsFromTwo c logs → times c (crossings (all_accepted links 0 (map logged_of logs))) ≤ 1
