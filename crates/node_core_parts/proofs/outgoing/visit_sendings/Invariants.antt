use Rattle.std.proofs.Common.{◌≡◌, length}
use Rattle.std.specs.Prelude.{map, vec_len, vec_capacity}
use Rattle.node_core_spec.specs.Node.{packet_sending}
use Rattle.node_core_parts.proofs.outgoing.visit_sendings.Given as goal

abbrev pub invariant-loop-sent : goal.invariant-loop-sent
invariant-loop-sent l = (l.sends.items ≡ map (packet_sending l.mark) l.yielded)
    × (vec_len l.sends ≡ length l.yielded) × (vec_capacity l.sends ≡ length l.fn.outbox)
