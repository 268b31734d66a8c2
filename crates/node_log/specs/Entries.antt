-- What an entry of a log leaves of a node that makes it again, and what is written of it.
use Rattle.std.specs.Prelude.{ℕ, ◌≡◌, ◌≤◌, List, length, Result, IfOk, OnOk}
use Rattle.std.specs.List.{All}
use Rattle.plan_base.specs.declared.ids.Host.{Host}
use Rattle.plan_base.specs.declared.stamp.Version.{Version}
use Rattle.service_api.specs.Services.{ServiceState}
use Rattle.network_config.specs.declared.event.LogEvent.{LogEvent}
use Rattle.network_config.specs.declared.node.NodeConfig.{NodeConfig}
use Rattle.network_config.specs.NodeRules.{KeepsEntry}
use Rattle.node_io.specs.Sinks.{SinkState}
use Rattle.node_core_spec.specs.State.{NodeState, new_node}
use Rattle.node_core.specs.declared.node.Node.{Node}
use Rattle.node_core.specs.Stands.{version_of, NodeStands}
use Rattle.node_log.specs.Runs.{acts_of, node_by, entries_at}
use Rattle.node_log.specs.Texts.{lines_text}
use Rattle.node_log.specs.Replays.{Prints}
use Rattle.node_log.specs.declared.fault.ReplayFault.{ReplayFault}

-- a node at its beginning, of its plan's version
pub record IsNewNode {S : Type 0} (view : S → ServiceState) (config : NodeConfig) (services : ServiceState) (node : Node S) : Type 0 where
  pub stands : NodeStands view node (new_node config services)
  pub version : version_of node ≡ config.version

-- the entries keep the limits of this version, and are no more than a log has
pub record KeepsEntries (version : Version) (entries : List LogEvent) : Type 0 where
  pub each : All (KeepsEntry version) entries
  pub few : length entries ≤ 50000

-- an entry was made again, and these are its lines
pub record GivesLines {S E : Type 0} (stands : S → ServiceState) (here : Host) (number : ℕ) (entry : LogEvent)
    (old new : Node S) (result : Result (List ℕ) E) : Type 0 where
  pub same : version_of new ≡ version_of old
  pub text : (s : NodeState) → NodeStands stands old s → IfOk result (λ text. text ≡ lines_text here (entries_at number (acts_of s entry)))
  pub after : (s : NodeState) → NodeStands stands old s → OnOk result (NodeStands stands new (node_by s entry))

-- an entry was made again, and its lines or a prefix of them were written
pub record PrintsEntry {S T : Type 0} (stands : S → ServiceState) (here : Host) (number : ℕ) (entry : LogEvent)
    (old new : Node S) (out out_new : SinkState) (result : Result T ReplayFault) : Type 0 where
  pub same : version_of new ≡ version_of old
  pub lines : (s : NodeState) → NodeStands stands old s → Prints (lines_text here (entries_at number (acts_of s entry))) out out_new result
  pub after : (s : NodeState) → NodeStands stands old s → OnOk result (NodeStands stands new (node_by s entry))
