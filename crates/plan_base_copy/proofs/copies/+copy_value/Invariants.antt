use Rattle.std.proofs.Common.{◌≡◌, take}
use Rattle.plan_base_copy.proofs.copies.+copy_value.Given as goal

abbrev pub invariant-copy_values-loop-v : goal.invariant-copy_values-loop-v
invariant-copy_values-loop-v l = l.done ≡ take l.v-index l.values
