use Rattle.std.proofs.Common.{◌≡◌, ◌++◌, drop}
use Rattle.std.specs.List.{flat_map}
use Rattle.node_files.specs.LogTexts.{device_line}
use Rattle.node_files.proofs.log_text.put_devices.Given as goal

abbrev pub invariant-loop-n : goal.invariant-loop-n
invariant-loop-n l = l.out ++ flat_map device_line (drop l.n-index l.neighbours) ≡ l.initial.out ++ flat_map device_line l.neighbours
