-- What making an entry of a log again comes to.
use Rattle.std.specs.Prelude.{◌≡◌, Result, OnOk}
use Rattle.service_api.specs.Services.{ServiceState}
use Rattle.network_config.specs.declared.event.LogEvent.{LogEvent}
use Rattle.node_core_spec.specs.State.{NodeState}
use Rattle.node_core.specs.declared.node.Node.{Node}
use Rattle.node_core.specs.Stands.{NodeStands, version_of}
use Rattle.node_log.specs.Runs.{node_by}
use Rattle.net_world_spec.specs.World.{Cables}
use Rattle.ledger_audit.specs.declared.reckoning.AuditState.{AuditState}
use Rattle.ledger_audit.specs.declared.reckoning.LogPosition.{LogPosition}
use Rattle.ledger_audit.specs.Spelling.{EntryReads}
use Rattle.ledger_audit.specs.Pasts.{Past, Holds, with_entry}

-- what the entry sent, accepted and did was added, what it brought and took are bytes that are read again, and the node stands for
-- the state after it; its version stays
pub record ReckonsEntry {S T E : Type 0} (stands : S → ServiceState) (links : Cables) (mark : LogPosition) (entry : LogEvent) (old new : Node S)
    (reckoning reckoning_new : AuditState) (r : Result T E) : Type 0 where
  pub same : version_of new ≡ version_of old
  pub holds : (s : NodeState) → NodeStands stands old s → (p : Past) → Holds reckoning p
      → OnOk r (Holds reckoning_new (with_entry links mark.log mark.event s entry p))
  pub reads : (s : NodeState) → NodeStands stands old s → OnOk r (EntryReads s entry)
  pub after : (s : NodeState) → NodeStands stands old s → OnOk r (NodeStands stands new (node_by s entry))
