use Rattle.std.proofs.Common.{◌≡◌, true, take}
use Rattle.std.specs.List.{list_all}
use Rattle.chunk_codec.specs.Ranges.{function_ranged}
use Rattle.chunk_codec.proofs.range_values.range_functions.Given as goal

abbrev pub invariant-loop-f : goal.invariant-loop-f
invariant-loop-f l = list_all function_ranged (take l.f-index l.functions) ≡ true
