use Rattle.std.proofs.Common.{arith}
use Rattle.reliable_ports_world.proofs.run.port_text.Goals as goal

pub text_of-text-requires-clause-cost : goal.text_of-text-requires-clause-cost
text_of-text-requires-clause-cost g c = omega (arith, c.in_ok-ports.ensures.cost, c.requires.keeps.second)
