use Rattle.std.proofs.Common.{◌≡◌, ◌-◌, ◌≤◌, length}
use Rattle.plan_base.specs.declared.limit.Limit.TheVariants as limits
use Rattle.plan_lexer.specs.declared.token.Symbol.TheVariants as symbols
use Rattle.plan_parser_exprs.specs.declared.fault.Wanted.TheVariants as wanted
use Rattle.plan_parser_exprs.specs.Types.{more}
use Rattle.plan_parser.specs.Values.{begins_value, value_to}
use Rattle.plan_parser.proofs.values.ValueReader.more_parts.Given as goal

abbrev pub invariant-loop-ahead : goal.invariant-loop-ahead
invariant-loop-ahead g l = (more (value_to l.self.outside l.self.room) begins_value symbols.Comma limits.Parts wanted.AValue (8 - length l.fn.parts) l.fn.parts l.fn.ahead
    ≡ more (value_to l.self.outside l.self.room) begins_value symbols.Comma limits.Parts wanted.AValue (8 - length l.parts) l.parts l.ahead)
    × (length l.parts ≤ 8)

abbrev pub decreases-loop-ahead : goal.decreases-loop-ahead
decreases-loop-ahead g l = 8 - length l.parts
