use Rattle.std.proofs.Common.{◌≡◌, ◌-◌, ◌≤◌, length}
use Rattle.plan_base.specs.declared.limit.Limit.TheVariants as limits
use Rattle.plan_lexer.specs.declared.token.Symbol.TheVariants as symbols
use Rattle.plan_parser_exprs.specs.declared.fault.Wanted.TheVariants as wanted
use Rattle.plan_parser_exprs.specs.Types.{more}
use Rattle.plan_parser.specs.Values.{begins_value, like, value_to}
use Rattle.plan_parser.proofs.values.ValueReader.more_items.Given as goal

abbrev pub invariant-loop-ahead : goal.invariant-loop-ahead
invariant-loop-ahead g l = (more (like (value_to l.self.outside l.self.room) l.self.outside l.self.room l.t) begins_value symbols.Comma limits.Items wanted.AValue (63 - length l.fn.items) l.fn.items l.fn.ahead
    ≡ more (like (value_to l.self.outside l.self.room) l.self.outside l.self.room l.t) begins_value symbols.Comma limits.Items wanted.AValue (63 - length l.items) l.items l.ahead)
    × (length l.items ≤ 63)

abbrev pub decreases-loop-ahead : goal.decreases-loop-ahead
decreases-loop-ahead g l = 63 - length l.items
