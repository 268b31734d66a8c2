use Rattle.std.specs.Prelude.{All}
use Rattle.host_io.specs.Words.{IsShort}
use Rattle.host_io.proofs.arguments.arguments_of.Given as goal

abbrev pub invariant-loop-i : goal.invariant-loop-i
invariant-loop-i g l = All IsShort l.arguments
