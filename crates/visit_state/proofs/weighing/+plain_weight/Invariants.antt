use Rattle.std.proofs.Common.{◌≡◌, min, take}
use Rattle.std.specs.List.{sum_by}
use Rattle.plan_base.specs.Sizes.{largest_by, weight, nesting}
use Rattle.visit_state.proofs.weighing.+plain_weight.Given as goal

abbrev pub invariant-plain_weights-loop-v : goal.invariant-plain_weights-loop-v
invariant-plain_weights-loop-v l = (l.total ≡ min (sum_by weight (take l.v-index l.values)) 18446744073709551615) × (largest_by nesting (take l.v-index l.values) ≡ 0)
