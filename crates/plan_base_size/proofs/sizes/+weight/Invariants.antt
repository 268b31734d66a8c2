use Rattle.std.proofs.Common.{◌≡◌, min, take}
use Rattle.std.specs.List.{sum_by}
use Rattle.plan_base.specs.Sizes.{weight}
use Rattle.plan_base_size.proofs.sizes.+weight.Given as goal

abbrev pub invariant-values_weight-loop-v : goal.invariant-values_weight-loop-v
invariant-values_weight-loop-v l = l.total ≡ min (sum_by weight (take l.v-index l.values)) 18446744073709551615
