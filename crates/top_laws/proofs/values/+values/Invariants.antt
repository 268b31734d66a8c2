use Rattle.std.proofs.Common.{◌≡◌, true, take}
use Rattle.std.specs.List.{list_all}
use Rattle.top_laws.specs.Exact.{value_exact}
use Rattle.top_laws.proofs.values.+values.Given as goal

abbrev pub invariant-read_values-loop-v : goal.invariant-read_values-loop-v
invariant-read_values-loop-v l = list_all value_exact (take l.v-index l.values) ≡ true
