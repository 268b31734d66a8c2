use Rattle.std.proofs.Common.{◌≡◌, min, take}
use Rattle.std.specs.List.{sum_by}
use Rattle.plan_base.specs.Sizes.{param_size}
use Rattle.plan_base_size.proofs.sizes.params_size.Given as goal

abbrev pub invariant-loop-param : goal.invariant-loop-param
invariant-loop-param l = l.total ≡ min (sum_by param_size (take l.param-index l.params)) 18446744073709551615
