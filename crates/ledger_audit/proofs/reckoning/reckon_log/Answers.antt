use Rattle.std.proofs.Common.{sym, ap, subst, ◌∙◌}
use Rattle.std.specs.List.{All}
use Rattle.network_config.specs.NodeRules.{KeepsEntry}
use Rattle.service_registry_spec.specs.Beginning.{opening_standing, present_without}
use Rattle.node_core_spec.specs.State.{new_node}
use Rattle.service_registry.specs.contracts.registry.RegistryServices.TheImpl as service_impl
use Rattle.node_core.specs.Stands.{NodeStands}
use Rattle.ledger_audit.specs.Pasts.{with_logs, nothing}
use Rattle.ledger_audit.proofs.PastLaws.{log_reckoned, on_both}
use Rattle.ledger_audit.proofs.reckoning.reckon_log.Goals as goal

pub reckon_node-requires-clause-keeps : goal.reckon_node-requires-clause-keeps
reckon_node-requires-clause-keeps c = subst (λ v. All (KeepsEntry v) c.args.log.now.events) (sym c.in_ok-node.ensures.version) c.requires.events

pub returns : goal.returns
returns c = λ ls k n most.
    let e = c.new-services.ensures ∙ ap (λ m. opening_standing (present_without m)) c.as_slice.ensures in
    let at = subst (λ x. NodeStands (service_impl.ghosts).stands c.in_ok-node.node (new_node c.args.log.now.node x)) e c.in_ok-node.ensures.stands in
    let s = opening_standing (present_without c.args.log.now.missing) in
    let node = new_node c.args.log.now.node s in
    on_both _ _ _ c.reckon_node.result
    (λ held reads. log_reckoned c.args.links.now ls c.args.number c.args.log.now.node s c.args.log.now.events c.args.reckoning.now c.reckon_node.new.reckoning k n most c.requires.few c.requires.events held reads)
    (c.reckon_node.ensures.holds node at (with_logs c.args.links.now 0 ls nothing) k.holds) (c.reckon_node.ensures.reads node at)
