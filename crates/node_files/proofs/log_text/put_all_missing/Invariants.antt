use Rattle.std.proofs.Common.{◌≡◌, ◌++◌, drop}
use Rattle.std.specs.List.{flat_map}
use Rattle.node_files.specs.LogTexts.{missing_line}
use Rattle.node_files.proofs.log_text.put_all_missing.Given as goal

abbrev pub invariant-loop-p : goal.invariant-loop-p
invariant-loop-p l = l.out ++ flat_map missing_line (drop l.p-index l.missing) ≡ l.initial.out ++ flat_map missing_line l.missing
