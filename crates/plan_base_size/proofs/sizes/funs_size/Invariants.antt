use Rattle.std.proofs.Common.{◌≡◌, min, take}
use Rattle.std.specs.List.{sum_by}
use Rattle.plan_base.specs.Sizes.{fun_size}
use Rattle.plan_base_size.proofs.sizes.funs_size.Given as goal

abbrev pub invariant-loop-fun : goal.invariant-loop-fun
invariant-loop-fun l = l.total ≡ min (sum_by fun_size (take l.fun-index l.funs)) 18446744073709551615
