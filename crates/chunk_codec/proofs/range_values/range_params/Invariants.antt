use Rattle.std.proofs.Common.{◌≡◌, true, take}
use Rattle.std.specs.List.{list_all}
use Rattle.chunk_codec.specs.Ranges.{param_ranged}
use Rattle.chunk_codec.proofs.range_values.range_params.Given as goal

abbrev pub invariant-loop-p : goal.invariant-loop-p
invariant-loop-p l = list_all param_ranged (take l.p-index l.params) ≡ true
