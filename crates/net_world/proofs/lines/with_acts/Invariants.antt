use Rattle.std.proofs.Common.{◌≡◌, ◌+◌, ◌++◌, length}
use Rattle.std.specs.Prelude.{vec_len, vec_capacity}
use Rattle.net_world_spec.specs.World.{lines_at}
use Rattle.net_world.proofs.lines.with_acts.Given as goal

abbrev pub invariant-loop-act : goal.invariant-loop-act
invariant-loop-act l = (l.lines.items ≡ l.initial.lines.items ++ lines_at l.host l.yielded)
    × (vec_len l.initial.lines + length l.yielded ≡ vec_len l.lines) × (vec_capacity l.lines ≡ vec_capacity l.initial.lines)
