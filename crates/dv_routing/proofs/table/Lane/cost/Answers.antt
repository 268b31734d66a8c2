use Rattle.std.proofs.Common.{ap, ◌∙◌}
use Rattle.dv_routing.specs.declared.table.Lane.{Lane}
use Rattle.dv_routing.specs.Lanes.{known_cost}
use Rattle.dv_routing.proofs.Tables.{later_cost}
use Rattle.dv_routing.proofs.table.Lane.cost.Goals as goal

pub returns : goal.returns
returns c = λ r link e.
    later_cost c.args.self.now c.args.host c.cost_near.result c.if-self-host.false
    (c.cost_near.ensures r link.1 (c.as_slice.ensures ∙ ap (λ (l : Lane). l.known) e) ∙ ap (λ ks. known_cost ks c.args.host) c.as_slice.ensures)
