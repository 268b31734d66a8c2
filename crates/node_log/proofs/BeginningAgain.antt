-- A node begins as by the plan of which it has a copy.
use Rattle.std.proofs.Common.{◌≡◌, ◌∙◌, ap, subst, Result, Ok, Err, IfOk}
use Rattle.network_config.specs.declared.node.NodeConfig.{NodeConfig}
use Rattle.service_api.specs.Services.{ServiceState}
use Rattle.node_core_spec.specs.State.{new_node}
use Rattle.node_core.specs.declared.node.Node.{Node}
use Rattle.node_core.specs.Stands.{version_of, NodeStands}
use Rattle.node_log.specs.Entries.{IsNewNode}

pub begins_as : {S E : Type 0} (stands : S → ServiceState) (config copy : NodeConfig) (services : ServiceState) (result : Result (Node S) E) → copy ≡ config
    → IfOk result (λ node. NodeStands stands node (new_node copy services)) → IfOk result (λ node. version_of node ≡ copy.version) → IfOk result (λ node. IsNewNode stands config services node)
begins_as stands config copy services (Ok node) same is version = record {
  stands = subst (λ (c : NodeConfig). NodeStands stands node (new_node c services)) same is;
  version = version ∙ ap (λ (c : NodeConfig). c.version) same;
}
begins_as stands config copy services (Err e) same is version = tt
