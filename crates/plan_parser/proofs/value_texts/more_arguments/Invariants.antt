use Rattle.std.proofs.Common.{◌≡◌, ◌-◌, ◌≤◌, length}
use Rattle.plan_base.specs.declared.limit.Limit.TheVariants as limits
use Rattle.plan_lexer.specs.declared.token.Symbol.TheVariants as symbols
use Rattle.plan_parser_exprs.specs.declared.fault.Wanted.TheVariants as wanted
use Rattle.plan_parser_exprs.specs.Types.{more}
use Rattle.plan_parser.specs.Values.{begins_value, argument_at}
use Rattle.plan_parser.proofs.value_texts.more_arguments.Given as goal

abbrev pub invariant-loop-alloc : goal.invariant-loop-alloc
invariant-loop-alloc l = (more argument_at begins_value symbols.Comma limits.Arguments wanted.AValue (8 - length l.fn.args) l.fn.args l.fn.ahead
    ≡ more argument_at begins_value symbols.Comma limits.Arguments wanted.AValue (8 - length l.args) l.args l.ahead)
    × (length l.args ≤ 8)

abbrev pub decreases-loop-alloc : goal.decreases-loop-alloc
decreases-loop-alloc l = 8 - length l.args
