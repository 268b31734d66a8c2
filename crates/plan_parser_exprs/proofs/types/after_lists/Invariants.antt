use Rattle.std.proofs.Common.{◌≡◌, ◌+◌, length}
use Rattle.plan_parser_exprs.specs.Types as spec
use Rattle.plan_parser_exprs.proofs.types.after_lists.Given as goal

abbrev pub invariant-loop-rest : goal.invariant-loop-rest
invariant-loop-rest l = (spec.after_lists 0 l.tokens ≡ spec.after_lists l.count l.rest) × (l.count + length l.rest ≡ length l.tokens)

abbrev pub decreases-loop-rest : goal.decreases-loop-rest
decreases-loop-rest l = length l.rest
