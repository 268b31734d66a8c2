use Rattle.std.proofs.Common.{◌-◌, map}
use Rattle.resident_tables.specs.Index.{Splits}
use Rattle.resident_tables.proofs.search.search.Given as goal

abbrev pub invariant-loop-lo : goal.invariant-loop-lo
invariant-loop-lo g l = Splits (map g.T.HasKey.key_of l.items) l.order (g.Q.HasKey.key_of l.wanted) l.lo l.hi

abbrev pub decreases-loop-lo : goal.decreases-loop-lo
decreases-loop-lo g l = l.hi - l.lo
