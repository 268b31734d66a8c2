use Rattle.std.proofs.Common.{◌≡◌, length}
use Rattle.plan_parser_exprs.specs.Nodes as spec
use Rattle.plan_parser_exprs.proofs.builder.let_of.Given as goal

abbrev pub invariant-loop-bound : goal.invariant-loop-bound
invariant-loop-bound l = spec.let_of l.bounds l.whole ≡ spec.let_of l.fn.bounds l.fn.body

abbrev pub decreases-loop-bound : goal.decreases-loop-bound
decreases-loop-bound l = length l.bounds
