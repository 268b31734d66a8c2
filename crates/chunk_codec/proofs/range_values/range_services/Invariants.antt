use Rattle.std.proofs.Common.{◌≡◌, true, take}
use Rattle.std.specs.List.{list_all}
use Rattle.chunk_codec.specs.Ranges.{service_ranged}
use Rattle.chunk_codec.proofs.range_values.range_services.Given as goal

abbrev pub invariant-loop-s : goal.invariant-loop-s
invariant-loop-s l = list_all service_ranged (take l.s-index l.services) ≡ true
