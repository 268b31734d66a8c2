use Rattle.std.proofs.Common.{◌≡◌, ◌-◌}
use Rattle.containers.specs.Reading.{many}
use Rattle.containers.proofs.ReadingLists.{with_front}
use Rattle.chunk_codec.specs.Reading.{function_at}
use Rattle.chunk_codec.proofs.programs.functions_of.Given as goal

abbrev pub invariant-loop-i : goal.invariant-loop-i
invariant-loop-i l = with_front l.functions (many function_at (l.count - l._i) l.s) ≡ many function_at l.count l.fn.s
