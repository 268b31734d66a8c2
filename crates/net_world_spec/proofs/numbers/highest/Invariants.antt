use Rattle.std.proofs.Common.{◌≡◌, take}
use Rattle.net_world_spec.specs.Numbers.{highest}
use Rattle.net_world_spec.proofs.numbers.highest.Given as goal

abbrev pub invariant-loop-frame : goal.invariant-loop-frame
invariant-loop-frame l = l.found ≡ highest (take l.frame-index l.wire)
