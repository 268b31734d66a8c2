use Rattle.std.proofs.Common.{◌≡◌, min, take}
use Rattle.std.specs.List.{sum_by}
use Rattle.plan_base.specs.Sizes.{name_size}
use Rattle.plan_base_size.proofs.sizes.names_size.Given as goal

abbrev pub invariant-loop-name : goal.invariant-loop-name
invariant-loop-name l = l.total ≡ min (sum_by name_size (take l.name-index l.names)) 18446744073709551615
