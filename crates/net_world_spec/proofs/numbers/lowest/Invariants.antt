use Rattle.std.proofs.Common.{◌≡◌, take}
use Rattle.net_world_spec.specs.Numbers.{lowest}
use Rattle.net_world_spec.proofs.numbers.lowest.Given as goal

abbrev pub invariant-loop-frame : goal.invariant-loop-frame
invariant-loop-frame l = l.found ≡ lowest (take l.frame-index l.wire)
