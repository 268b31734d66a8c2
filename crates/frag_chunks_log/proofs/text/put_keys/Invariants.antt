use Rattle.std.proofs.Common.{◌≡◌, ◌++◌}
use Rattle.std.specs.Prelude.{drop}
use Rattle.frag_chunks_log.specs.Texts.{keys_text}
use Rattle.frag_chunks_log.proofs.text.put_keys.Given as goal

abbrev pub invariant-loop-i : goal.invariant-loop-i
invariant-loop-i l = l.out ++ keys_text (drop l.i l.gather.entries) ≡ l.initial.out ++ keys_text l.gather.entries
