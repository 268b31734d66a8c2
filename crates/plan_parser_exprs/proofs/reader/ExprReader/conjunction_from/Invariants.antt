use Rattle.std.proofs.Common.{◌≡◌, ◌-◌, length}
use Rattle.plan_parser_exprs.specs.declared.joint.Chain.TheVariants as chains
use Rattle.plan_parser_exprs.specs.Exprs.{chain_from, negated_operand, expr_to}
use Rattle.plan_parser_exprs.proofs.reader.ExprReader.conjunction_from.Given as goal

abbrev pub invariant-loop : goal.invariant-loop
invariant-loop g l = chain_from (negated_operand (expr_to l.self.room) l.self.room) chains.And (length l.fn.ahead.tokens) l.fn.left l.fn.ahead
    ≡ chain_from (negated_operand (expr_to l.self.room) l.self.room) chains.And (length l.fn.ahead.tokens - l.counter) l.left l.ahead
