use Rattle.std.proofs.Common.{◌≡◌}
use Rattle.std.specs.List.{flat_map}
use Rattle.plan_base.specs.Sizes.{largest_by}
use Rattle.plan_parser_exprs.specs.Nodes.{all_at, trees}
use Rattle.plan_parser_exprs.proofs.builder.together.Given as goal

abbrev pub invariant-loop-node : goal.invariant-loop-node
invariant-loop-node l = (l.trees ≡ trees l.yielded) × (l.places ≡ flat_map all_at l.yielded) × (l.depth ≡ largest_by (λ n. n.depth) l.yielded)
