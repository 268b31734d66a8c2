use Rattle.std.proofs.Common.{◌≡◌, ◌-◌, ◌≤◌, length}
use Rattle.plan_base.specs.declared.limit.Limit.TheVariants as limits
use Rattle.plan_lexer.specs.declared.token.Symbol.TheVariants as symbols
use Rattle.plan_parser_exprs.specs.declared.fault.Wanted.TheVariants as wanted
use Rattle.plan_parser_exprs.specs.Begins.{begins_type}
use Rattle.plan_parser_exprs.specs.Types.{more}
use Rattle.plan_parser.specs.Signatures.{inner_type}
use Rattle.plan_parser.proofs.signature.more_types.Given as goal

abbrev pub invariant-loop-alloc : goal.invariant-loop-alloc
invariant-loop-alloc l = (more inner_type begins_type symbols.Comma limits.Parameters wanted.AType (8 - length l.fn.types) l.fn.types l.fn.ahead
    ≡ more inner_type begins_type symbols.Comma limits.Parameters wanted.AType (8 - length l.types) l.types l.ahead)
    × (length l.types ≤ 8)

abbrev pub decreases-loop-alloc : goal.decreases-loop-alloc
decreases-loop-alloc l = 8 - length l.types
