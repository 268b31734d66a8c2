use Rattle.std.proofs.Common.{◌≡◌, true, take}
use Rattle.std.specs.List.{list_all}
use Rattle.plan_base.specs.Words.{is_name}
use Rattle.chunk_codec.proofs.range_values.range_names.Given as goal

abbrev pub invariant-loop-n : goal.invariant-loop-n
invariant-loop-n l = list_all is_name (take l.n-index l.names) ≡ true
