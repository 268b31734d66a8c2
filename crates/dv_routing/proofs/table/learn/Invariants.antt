use Rattle.std.proofs.Common.{◌≡◌, ◌++◌, take, drop}
use Rattle.std.specs.Prelude.{map}
use Rattle.dv_routing.specs.Lanes.{known_after}
use Rattle.dv_routing.proofs.table.learn.Given as goal

abbrev pub invariant-loop-i : goal.invariant-loop-i
invariant-loop-i l = l.known ≡ map (known_after l.rows) (take l.i l.initial.known) ++ drop l.i l.initial.known
