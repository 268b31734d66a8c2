use Rattle.std.proofs.Common.{◌≡◌}
use Rattle.std.specs.Prelude.{drop}
use Rattle.frag_chunks_log.specs.Counting.{with_acts}
use Rattle.frag_chunks_log.proofs.counting.count_acts.Given as goal

abbrev pub invariant-loop-act : goal.invariant-loop-act
invariant-loop-act l = with_acts (drop l.act-index l.acts) l.counting ≡ with_acts l.acts l.initial.counting
