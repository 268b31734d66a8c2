use Rattle.std.proofs.Common.{◌≡◌, ◌-◌, length}
use Rattle.plan_parser_exprs.specs.declared.joint.Chain.TheVariants as chains
use Rattle.plan_parser_exprs.specs.Exprs.{chain_from, product, expr_to}
use Rattle.plan_parser_exprs.proofs.reader.ExprReader.addition_from.Given as goal

abbrev pub invariant-loop : goal.invariant-loop
invariant-loop g l = chain_from (product (expr_to l.self.room) l.self.room) chains.Sum (length l.fn.ahead.tokens) l.fn.left l.fn.ahead
    ≡ chain_from (product (expr_to l.self.room) l.self.room) chains.Sum (length l.fn.ahead.tokens - l.counter) l.left l.ahead
