use Rattle.std.proofs.Common.{◌≡◌}
use Rattle.net_world_spec.specs.World.{neighbours_to}
use Rattle.net_world.proofs.ends.neighbours_of.Given as goal

abbrev pub invariant-loop-before : goal.invariant-loop-before
invariant-loop-before l = l.neighbours ≡ neighbours_to l.links l.host l.before
