-- What a node leaves: the run that it made, whole or in part, and a log whose replay gives the lines of a whole one.
use Rattle.std.specs.Prelude.{ℕ, ◌≡◌, ◌≤◌, ◌⊎◌, List, ◌++◌, length, take, Some}
use Rattle.plan_base.specs.declared.tree.Packet.{Packet}
use Rattle.network_config.specs.declared.serve.ServeConfig.{ServeConfig}
use Rattle.node_io.specs.FileMaps.{file_at}
use Rattle.node_io.specs.Outsides.{Outside}
use Rattle.node_core_spec.specs.State.{NodeState}
use Rattle.node_core_spec.specs.Contexts.{IsOrdered}
use Rattle.node_core_spec.specs.Visits.{around}
use Rattle.network_config.specs.declared.event.LogEvent.{LogEvent}
use Rattle.node_log.specs.Runs.{Running}
use Rattle.node_log.specs.Follow.{lost_places}
use Rattle.node_serve.specs.Desks.{Serving, desk_of, seen_at, start_at}
use Rattle.node_serve.specs.Shown.{Agrees}
use Rattle.node_serve.specs.Served.{Served, AgreesEarly, Begun, run_in}
use Rattle.planet_commands_run.specs.Keeping.{KeepsNodeRun, node_at}
use Rattle.planet_commands_fleet.specs.Nodes.{own_node, begun_config, begun_with}
use Rattle.planet_cli.specs.declared.kinds.Kind.TheVariants.{Replay}
use Rattle.planet_cli.specs.Requests.{on_file}
use Rattle.planet_cli.specs.Laws.{Untouched}
use Rattle.planet_cli.specs.Outcomes.{whole, outcome_of}

-- the node of a configuration at its beginning, and its run with these steps refused
abbrev pub first_node : ServeConfig → Serving → NodeState
first_node cfg old = own_node (begun_config cfg old)

abbrev pub made_run : ServeConfig → ℕ → Serving → List ℕ → Running
made_run cfg turns old refused = run_in (begun_config cfg old) (first_node cfg old) turns (begun_with cfg old) refused

-- after every number of entries, the context of a visit is in order: neighbours by device and routes by host
abbrev pub KeepsOrder : NodeState → List LogEvent → Type 0
KeepsOrder node es = (k : ℕ) (p : Packet) → IsOrdered (around (node_at node es k) p)

-- the run was made whole; after every number of its entries the node keeps its limits, each step is in balance, and each visit has a
-- case and would end
pub record KeepsServing (cfg : ServeConfig) (turns : ℕ) (old new : Serving) : Type 0 where
  pub served : Served (begun_config cfg old) (first_node cfg old) turns (begun_with cfg old) new
  pub keeps : KeepsNodeRun (first_node cfg old) (made_run cfg turns old served.refused).events

-- a prefix of the run was made, and after every number of its entries the node keeps its limits, and all that the whole one keeps
pub record KeepsBegun (cfg : ServeConfig) (turns : ℕ) (old new : Serving) : Type 0 where
  pub begun : Begun (begun_config cfg old) (first_node cfg old) turns (begun_with cfg old) new
  pub keeps : KeepsNodeRun (first_node cfg old) (take begun.steps (made_run cfg turns old begun.refused).events)

-- whole, or in part, or no step was made
abbrev pub KeepsUpTo : ServeConfig → ℕ → Serving → Serving → Type 0
KeepsUpTo cfg turns old new = KeepsServing cfg turns old new ⊎ (KeepsBegun cfg turns old new ⊎ Untouched old new)

-- for a run with the steps refused that its log says, what was written and sent belongs to entries that the log has, and these are
-- among so many; or the opening came to no entry
pub record AgreesServing (cfg : ServeConfig) (turns : ℕ) (old new : Serving) : Type 0 where
  pub refused : List ℕ
  pub steps : ℕ
  pub places : refused ≡ lost_places (take steps (made_run cfg turns old refused).events)
  pub agrees : AgreesEarly (begun_config cfg old) (desk_of old) (desk_of new)
      ⊎ Agrees (begun_config cfg old) (start_at (desk_of old) (first_node cfg old)) (seen_at (desk_of new)) (take steps (made_run cfg turns old refused).events)

-- the log stands in its file, the trace was written, and a replay of the log, of a file within its limit, is whole and gives that trace
pub record ReplaysSo (log : List ℕ) (old new : Outside) : Type 0 where
  pub bytes : List ℕ
  pub there : file_at new.files.held log ≡ Some bytes
  pub trace : List ℕ
  pub wrote : new.out.taken ≡ old.out.taken ++ trace
  pub again : length bytes ≤ 4194304 → outcome_of (Some (on_file Replay log)) new.files.held ≡ whole trace
