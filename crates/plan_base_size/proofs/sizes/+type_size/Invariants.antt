use Rattle.std.proofs.Common.{◌≡◌, min, take}
use Rattle.std.specs.List.{sum_by}
use Rattle.plan_base.specs.Sizes.{type_size}
use Rattle.plan_base_size.proofs.sizes.+type_size.Given as goal

abbrev pub invariant-types_size-loop-t : goal.invariant-types_size-loop-t
invariant-types_size-loop-t l = l.total ≡ min (sum_by type_size (take l.t-index l.types)) 18446744073709551615
