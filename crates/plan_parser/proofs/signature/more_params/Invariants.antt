use Rattle.std.proofs.Common.{◌≡◌, ◌-◌, ◌≤◌, length}
use Rattle.plan_parser_exprs.specs.Begins.{begins_name}
use Rattle.plan_base.specs.declared.limit.Limit.TheVariants as limits
use Rattle.plan_lexer.specs.declared.token.Symbol.TheVariants as symbols
use Rattle.plan_parser_exprs.specs.declared.fault.Wanted.TheVariants as wanted
use Rattle.plan_parser_exprs.specs.Types.{more}
use Rattle.plan_parser.specs.Signatures.{param_at}
use Rattle.plan_parser.proofs.signature.more_params.Given as goal

abbrev pub invariant-loop-alloc : goal.invariant-loop-alloc
invariant-loop-alloc l = (more param_at begins_name symbols.Comma limits.Parameters wanted.AName (8 - length l.fn.params) l.fn.params l.fn.ahead
    ≡ more param_at begins_name symbols.Comma limits.Parameters wanted.AName (8 - length l.params) l.params l.ahead)
    × (length l.params ≤ 8)

abbrev pub decreases-loop-alloc : goal.decreases-loop-alloc
decreases-loop-alloc l = 8 - length l.params
