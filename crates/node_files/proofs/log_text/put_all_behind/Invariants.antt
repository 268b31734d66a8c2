use Rattle.std.proofs.Common.{◌≡◌, ◌++◌, drop}
use Rattle.std.specs.List.{flat_map}
use Rattle.node_files.specs.LogTexts.{spaced_host}
use Rattle.node_files.proofs.log_text.put_all_behind.Given as goal

abbrev pub invariant-loop-h : goal.invariant-loop-h
invariant-loop-h l = l.out ++ flat_map spaced_host (drop l.h-index l.hosts) ≡ l.initial.out ++ flat_map spaced_host l.hosts
