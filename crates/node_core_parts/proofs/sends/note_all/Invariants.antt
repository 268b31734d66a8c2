use Rattle.std.proofs.Common.{◌≡◌, ◌+◌, ◌++◌, length}
use Rattle.std.specs.Prelude.{map, vec_len, vec_capacity}
use Rattle.node_core_spec.specs.declared.acts.Act.TheVariants.{Noted}
use Rattle.node_core_parts.proofs.sends.note_all.Given as goal

abbrev pub invariant-loop-note : goal.invariant-loop-note
invariant-loop-note l = (l.acts.items ≡ l.initial.acts.items ++ map Noted l.yielded)
    × (vec_len l.initial.acts + length l.yielded ≡ vec_len l.acts) × (vec_capacity l.acts ≡ vec_capacity l.initial.acts)
