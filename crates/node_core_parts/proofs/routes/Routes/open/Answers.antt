use Rattle.node_core_parts.proofs.HostLaws.{opened_heard}
use Rattle.node_core_parts.proofs.routes.Routes.open.Goals as goal

pub invariant_of-result : goal.invariant_of-result
invariant_of-result c = (
  opened_heard c.in_ok-table.table c.args.here c.args.hosts.now c.in_ok-sorted.sorted c.args.neighbours.now c.number_of-number.ensures.small c.requires c.in_ok-sorted.ensures.hosts
      c.in_ok-sorted.ensures.small c.in_ok-table.ensures,
  tt,
)
