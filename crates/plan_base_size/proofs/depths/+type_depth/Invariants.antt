use Rattle.std.proofs.Common.{◌≡◌, min, take}
use Rattle.plan_base.specs.Sizes.{largest_by, type_depth}
use Rattle.plan_base_size.proofs.depths.+type_depth.Given as goal

abbrev pub invariant-types_depth-loop-t : goal.invariant-types_depth-loop-t
invariant-types_depth-loop-t l = l.deepest ≡ min (largest_by type_depth (take l.t-index l.types)) 4294967295
