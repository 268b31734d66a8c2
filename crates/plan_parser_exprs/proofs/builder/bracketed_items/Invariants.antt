use Rattle.std.proofs.Common.{◌≡◌, length}
use Rattle.plan_parser_exprs.specs.Nodes as spec
use Rattle.plan_parser_exprs.proofs.builder.bracketed_items.Given as goal

abbrev pub invariant-loop-item : goal.invariant-loop-item
invariant-loop-item l = spec.bracketed_nodes l.items l.list ≡ spec.bracketed_nodes l.fn.items l.fn.end

abbrev pub decreases-loop-item : goal.decreases-loop-item
decreases-loop-item l = length l.items
