use Rattle.std.proofs.Common.{◌≡◌, true, take}
use Rattle.std.specs.List.{list_all}
use Rattle.chunk_codec.specs.Ranges.{value_ranged}
use Rattle.chunk_codec.proofs.range_values.+range_values.Given as goal

abbrev pub invariant-range_values-loop-v : goal.invariant-range_values-loop-v
invariant-range_values-loop-v l = list_all value_ranged (take l.v-index l.values) ≡ true
