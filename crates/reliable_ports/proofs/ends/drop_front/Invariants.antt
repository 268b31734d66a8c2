use Rattle.std.proofs.Common.{◌≡◌, drop}
use Rattle.reliable_ports.proofs.ends.drop_front.Given as goal

abbrev pub invariant-loop-dropped : goal.invariant-loop-dropped
invariant-loop-dropped l = l.bodies.items ≡ drop l._dropped l.initial.bodies.items
