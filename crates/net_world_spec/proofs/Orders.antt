-- The context of a visit is in order.
use Rattle.std.specs.Prelude.{All}
use Rattle.std.proofs.lemmas.List.Elements.{All-weaker}
use Rattle.plan_base.specs.declared.tree.Packet.{Packet}
use Rattle.node_core_spec.specs.Contexts.{IsOrdered}
use Rattle.node_core_spec.specs.Visits.{around}
use Rattle.node_core_spec.specs.Fits.{NodeFits}
use Rattle.node_core_spec.proofs.Contexts.{node_ordered}
use Rattle.net_world_spec.specs.World.{WorldState}
use Rattle.net_world_spec.specs.Sound.{IsSound}

pub all_ordered : (w : WorldState) → IsSound w → All (λ node. (p : Packet) → IsOrdered (around node p)) w.nodes
all_ordered w s = All-weaker NodeFits (λ node. (p : Packet) → IsOrdered (around node p)) (λ node n p. node_ordered node p n) w.nodes s.nodes
