-- The act of a frame that isn't queued is that of the definition.
use Rattle.std.proofs.Common.{◌≡◌, Option, Some, None, refl}
use Rattle.node_core_spec.specs.declared.acts.TxQueue.{TxQueue}
use Rattle.node_core_spec.specs.declared.acts.Sending.{Sending}
use Rattle.node_core_spec.specs.Node.{drop_act}
use Rattle.node_core_parts.specs.Drops.{drop_by}

pub drop_is : (o : Option TxQueue) (s : Sending) → drop_by o s.dropped s.spent ≡ drop_act o s
drop_is None s = refl
drop_is (Some lane) s = refl
