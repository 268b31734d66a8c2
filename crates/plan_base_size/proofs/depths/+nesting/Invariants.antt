use Rattle.std.proofs.Common.{◌≡◌, min, take}
use Rattle.plan_base.specs.Sizes.{largest_by, nesting}
use Rattle.plan_base_size.proofs.depths.+nesting.Given as goal

abbrev pub invariant-values_nesting-loop-v : goal.invariant-values_nesting-loop-v
invariant-values_nesting-loop-v l = l.most ≡ min (largest_by nesting (take l.v-index l.values)) 4294967295
