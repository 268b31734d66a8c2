use Rattle.std.proofs.Common.{◌≡◌}
use Rattle.std.specs.List.{flat_map}
use Rattle.plan_base.specs.Sizes.{largest_by}
use Rattle.plan_parser_exprs.specs.Nodes.{all_at, clauses_of, bodies}
use Rattle.plan_parser_exprs.proofs.builder.clauses.Given as goal

abbrev pub invariant-loop-clause : goal.invariant-loop-clause
invariant-loop-clause l = (l.clauses ≡ clauses_of l.yielded) × (l.places ≡ flat_map all_at (bodies l.yielded))
    × (l.depth ≡ largest_by (λ n. n.depth) (bodies l.yielded))
