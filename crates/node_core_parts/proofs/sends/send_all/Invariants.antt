use Rattle.std.proofs.Common.{◌≡◌, ◌+◌, ◌++◌, length}
use Rattle.std.specs.Prelude.{vec_len, vec_capacity}
use Rattle.node_core_spec.specs.Node.{sends_acts, sends_queues}
use Rattle.node_core_parts.proofs.sends.send_all.Given as goal

abbrev pub invariant-loop-sending : goal.invariant-loop-sending
invariant-loop-sending l = (l.acts.items ≡ l.initial.acts.items ++ sends_acts l.initial.lanes l.yielded)
    × (l.lanes ≡ sends_queues l.initial.lanes l.yielded)
    × (vec_len l.initial.acts + length l.yielded ≡ vec_len l.acts) × (vec_capacity l.acts ≡ vec_capacity l.initial.acts)
