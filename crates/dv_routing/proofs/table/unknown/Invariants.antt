use Rattle.std.proofs.Common.{◌≡◌, take}
use Rattle.std.specs.Prelude.{map}
use Rattle.dv_routing.specs.Lanes.{unknown}
use Rattle.dv_routing.proofs.table.unknown.Given as goal

abbrev pub invariant-loop-host : goal.invariant-loop-host
invariant-loop-host l = l.known ≡ map unknown (take l.host-index l.hosts)
