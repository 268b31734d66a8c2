use Rattle.std.proofs.Common.{◌≡◌, ◌-◌, length}
use Rattle.plan_parser_exprs.specs.Exprs.{bindings_from, expr_to}
use Rattle.plan_parser_exprs.proofs.reader.ExprReader.bindings_from.Given as goal

abbrev pub invariant-loop : goal.invariant-loop
invariant-loop g l = bindings_from (expr_to l.self.room) l.self.room (length l.fn.ahead.tokens) l.fn.bounds l.fn.ahead
    ≡ bindings_from (expr_to l.self.room) l.self.room (length l.fn.ahead.tokens - l.counter) l.bounds l.ahead
