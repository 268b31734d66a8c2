use Rattle.std.proofs.Common.{◌≡◌, ◌+◌, ◌++◌, take}
use Rattle.reliable_ports_world.specs.Texts.{body_lines}
use Rattle.reliable_ports_world.proofs.ends.put_bodies.Given as goal

abbrev pub invariant-loop-body : goal.invariant-loop-body
invariant-loop-body l = record {
  number : l.number ≡ l.body-index + 1;
  out : l.out ≡ l.initial.out ++ body_lines 1 (take l.body-index l.bodies);
}
