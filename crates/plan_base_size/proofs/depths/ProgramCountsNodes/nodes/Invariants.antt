use Rattle.std.proofs.Common.{◌≡◌, min, take}
use Rattle.std.specs.List.{sum_by}
use Rattle.plan_base.specs.Sizes.{expr_nodes}
use Rattle.plan_base_size.proofs.depths.ProgramCountsNodes.nodes.Given as goal

abbrev pub invariant-loop-fun : goal.invariant-loop-fun
invariant-loop-fun l = l.total ≡ min (sum_by (λ f. expr_nodes f.body) (take l.fun-index l.fun-items)) 4294967295
